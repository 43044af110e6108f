use Rattle.std.proofs.Common.{◌≡◌, ◌∙◌, [], ◌∷◌, get_or, ap, sym, arith}
use Rattle.fidl_tree.specs.Syntax.{ajar_protocol, open_protocol}
use Rattle.fidl_declarations.specs.declared.step.Step.TheVariants as step
use Rattle.fidl_table.specs.Samples.{piece}
use Rattle.fidl_table.proofs.Small.{small_name}
use Rattle.fidl_table.proofs.worked.listed.entries_of_protocols.Goals as goal

pub returns-clause-other_name : goal.returns-clause-other_name
returns-clause-other_name c = λ files f members methods name listed named small at h.
    let is = small_name f small (step.Name (piece 1) ∷ []) in
    let never : 109 ≡ 112 = ap (λ l. get_or l 2 0) (sym named ∙ (h.head f ajar_protocol (piece 1) members at).0 ∙ is) in
    omega (arith, never)

pub returns-clause-other_openness : goal.returns-clause-other_openness
returns-clause-other_openness c = λ files f members methods name listed at h.
    let never : 1 ≡ 2 = (h.head f open_protocol (piece 1) members at).1 in
    omega (arith, never)
