use Rattle.std.proofs.Common.{◌≡◌, ◌∙◌, sym, subst}
use Rattle.std.specs.Prelude.{pos}
use Rattle.std.proofs.lemmas.Option.{same_Some}
use Rattle.fidl_tree.specs.declared.file.File.{File}
use Rattle.fidl_consts.specs.declared.const_type.NumberKind.TheVariants.{Uint32}
use Rattle.fidl_consts.specs.declared.const_type.ConstType.TheVariants as ty
use Rattle.fidl_consts.specs.PlainValues.{a_number}
use Rattle.fidl_consts.specs.Values.{ValueIs}
use Rattle.fidl_consts.proofs.OneValue.{one_value}
use Rattle.fidl_constraints.proofs.worked.bounds_are_their_values.Goals as goal

pub returns-clause-other : goal.returns-clause-other
returns-clause-other c = λ files f v at is g.
    let same : g.amount.file ≡ f = same_Some g.amount.file f (sym g.amount.at ∙ at) in
    let six : ValueIs files f (ty.Number Uint32) v (a_number (pos 6)) = subst (λ (x : File). ValueIs files x (ty.Number Uint32) v (a_number (pos 6))) same g.amount.is in
    let both : a_number (pos 5) ≡ a_number (pos 6) = one_value files f (ty.Number Uint32) v (a_number (pos 5)) (a_number (pos 6)) is six in
    absurd (cc)
