use Rattle.std.proofs.Common.{refl}
use Rattle.fidl_named.specs.declared.meaning.Predeclared.TheVariants as name
use Rattle.fidl_wire.specs.Term as ty
use Rattle.fidl_lower_types.specs.Terms.{HeadIs}
use Rattle.fidl_lower_types.proofs.worked.vectors_hold_one_type.Goals as goal

pub returns-clause-holds : goal.returns-clause-holds
returns-clause-holds c = λ files t. HeadIs.vector t

pub returns-clause-bools : goal.returns-clause-bools
returns-clause-bools c = λ files. HeadIs.word name.Bool ty.bool refl
