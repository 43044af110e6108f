use Rattle.std.proofs.Common.{◌≡◌, ◌∙◌, [], ◌∷◌, get_or, ap, arith}
use Rattle.fidl_declarations.specs.declared.step.Step.TheVariants as step
use Rattle.fidl_table.specs.Samples.{piece}
use Rattle.fidl_table.proofs.Small.{small_name}
use Rattle.fidl_table.proofs.worked.protocols.methods_of_tables.Goals as goal

pub returns-clause-other_name : goal.returns-clause-other_name
returns-clause-other_name c = λ files ds f openness members small at h.
    let is = small_name f small (step.Name (piece 0) ∷ step.Name (piece 2) ∷ []) in
    let never : 112 ≡ 108 = ap (λ l. get_or l 2 0) (h.name f openness (piece 0) members at ∙ is) in
    omega (arith, never)
