use Rattle.std.proofs.Common.{◌≡◌, ◌∙◌, refl, ap, arith}
use Rattle.fidl_verify.specs.Lookups.{openness_number}
use Rattle.fidl_table_build.proofs.worked.lists_of_protocols.Goals as goal

pub returns-clause-turned : goal.returns-clause-turned
returns-clause-turned c = λ types p q ajar h.
    let never : 0 ≡ 1 = (h.each 0 p refl).openness ∙ ap openness_number ajar in
    absurd (omega (arith, never))
