use Rattle.std.proofs.Common.{sym, ◌∙◌, arith, ◌<◌, ◌+◌, length}
use Rattle.fidl_reading.proofs.Escaping.{letter_escape}
use Rattle.fidl_reading.proofs.escapes.letter_at.Goals as goal

pub returns-in-Some-clause-found : goal.returns-in-Some-clause-found
returns-in-Some-clause-found c =
    let within : c.args.at + 1 < length c.args.text.now = omega (arith, c.if-at-text.false, c.requires.within) in
    (omega arith, omega (arith, within), letter_escape c.args.text.now c.args.at c.in-Some.byte within c.requires.backslash (sym c.letter_value.ensures ∙ c.in-Some.is))
