use Rattle.std.proofs.Common.{rules, ◌<◌, length, subst, ◌∙◌}
use Rattle.std.specs.Char.{IsScalar}
use Rattle.fidl_reading.proofs.Digits.{is_character}
use Rattle.fidl_reading.proofs.Escaping.{if_some_weaker, some_of}
use Rattle.fidl_reading.proofs.escapes.character.Goals as goal

pub returns-clause-some : goal.returns-clause-some
returns-clause-some c =
    let digits = c.args.digits.now in
    let some : 0 < length digits = search (rules, c.is_empty.ensures, c.if-is_empty.false) in
    if_some_weaker c.from_u32.result _ _
    (λ x h. (is_character digits c.requires some c.if-digits-gt6.false (subst IsScalar c.hex_value.ensures h.0), h.1 ∙ c.hex_value.ensures))
    (some_of c.from_u32.result (IsScalar c.hex_value.result) c.hex_value.result c.from_u32.ensures.value)
