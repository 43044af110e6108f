use Rattle.std.proofs.Common.{◌≡◌, [], refl}
use Rattle.fidl_named.specs.declared.meaning.Predeclared.TheVariants as name
use Rattle.fidl_constraints.specs.AliasExamples.{named_with}
use Rattle.fidl_wire.specs.Term as ty
use Rattle.fidl_lower_types.proofs.OneTerm.{one_term}
use Rattle.fidl_resource_rules.proofs.Small.{word_is}
use Rattle.fidl_resource_rules.proofs.worked.numbers_of_32_bits.Goals as goal

pub returns-clause-uint32 : goal.returns-clause-uint32
returns-clause-uint32 c = λ files n path h. word_is files n path name.Uint32 (ty.number ty.uint32) refl h

pub returns-clause-uint64 : goal.returns-clause-uint64
returns-clause-uint64 c = λ files n path h is.
    let own = word_is files n path name.Uint64 (ty.number ty.uint64) refl h in
    let same : ty.number ty.uint64 ≡ ty.number ty.uint32 = one_term files n (named_with path []) (ty.number ty.uint64) (ty.number ty.uint32) own is in
    absurd (cc)
