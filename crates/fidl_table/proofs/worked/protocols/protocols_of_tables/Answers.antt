use Rattle.std.proofs.Common.{◌≡◌, ◌∙◌, [], ◌∷◌, slice_get, get_or, ap, arith}
use Rattle.fidl_tree.specs.Syntax.{ajar_protocol, open_protocol}
use Rattle.fidl_declarations.specs.declared.step.Step.TheVariants as step
use Rattle.fidl_table.specs.Samples.{piece, a_method}
use Rattle.fidl_table.proofs.Small.{small_name}
use Rattle.fidl_table.proofs.worked.protocols.protocols_of_tables.Goals as goal

pub returns-clause-other_name : goal.returns-clause-other_name
returns-clause-other_name c = λ files ds f members methods small at h.
    let is = small_name f small (step.Name (piece 2) ∷ []) in
    let never : 112 ≡ 109 = ap (λ l. get_or l 2 0) ((h.head f ajar_protocol (piece 2) members at).0 ∙ is) in
    omega (arith, never)

pub returns-clause-other_openness : goal.returns-clause-other_openness
returns-clause-other_openness c = λ files ds f members methods at h.
    let never : 1 ≡ 2 = (h.head f open_protocol (piece 1) members at).1 in
    omega (arith, never)

pub returns-clause-other_method : goal.returns-clause-other_method
returns-clause-other_method c = λ files ds methods listed none h. none (h.methods 0 a_method (ap (λ l. slice_get l 0) listed))
