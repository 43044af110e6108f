use Rattle.std.proofs.Common.{rules, ◌<◌, length, sym, ◌∙◌}
use Rattle.fidl_reading.proofs.Numbers.{digits_to, digits_from}
use Rattle.fidl_reading.proofs.number.is_numeral.Goals as goal

pub returns-then-not-is_empty : goal.returns-then-not-is_empty
returns-then-not-is_empty c =
    let word = c.args.word.now in
    let some : 0 < length word = search (rules, c.is_empty.ensures, c.if-not-is_empty.true) in
    (λ h. (some, digits_to word (sym c.are_digits.ensures ∙ h)), λ n. c.are_digits.ensures ∙ digits_from word n.1)
