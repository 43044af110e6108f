use Rattle.std.proofs.Common.{◌≡◌, ◌∙◌, [], ◌∷◌, get_or, ap, sym, arith}
use Rattle.fidl_declarations.specs.declared.step.Step.TheVariants as step
use Rattle.fidl_table.specs.Samples.{piece}
use Rattle.fidl_table.proofs.Small.{small_name}
use Rattle.fidl_table.proofs.worked.listed.entries_of_methods.Goals as goal

pub returns-clause-other_name : goal.returns-clause-other_name
returns-clause-other_name c = λ files f openness members name named small at h.
    let is = small_name f small (step.Name (piece 1) ∷ step.Name (piece 2) ∷ []) in
    let never : 109 ≡ 112 = ap (λ l. get_or l 2 0) (sym named ∙ h.name f openness (piece 1) members at ∙ is) in
    omega (arith, never)
