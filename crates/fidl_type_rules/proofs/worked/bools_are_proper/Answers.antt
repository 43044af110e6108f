use Rattle.std.proofs.Common.{[], refl}
use Rattle.fidl_named.specs.declared.meaning.Predeclared.TheVariants as name
use Rattle.fidl_wire.specs.Term as ty
use Rattle.fidl_declarations.specs.Sites.{present_type}
use Rattle.fidl_constraints.specs.AliasExamples.{named_with}
use Rattle.fidl_type_rules.proofs.Named.{left_out_not}
use Rattle.fidl_type_rules.proofs.Small.{float_left, plain_holds, bool_unconstrained}
use Rattle.fidl_type_rules.proofs.worked.bools_are_proper.Goals as goal

pub returns-clause-bool : goal.returns-clause-bool
returns-clause-bool c = λ files n path h. plain_holds files n path present_type name.Bool ty.bool h refl refl refl

pub returns-clause-constrained : goal.returns-clause-constrained
returns-clause-constrained c = bool_unconstrained

pub returns-clause-float : goal.returns-clause-float
returns-clause-float c = λ files n path h holds. left_out_not files n (named_with path []) holds.proper.term holds.proper.term_is (float_left files n path [] name.Float64 refl h)
