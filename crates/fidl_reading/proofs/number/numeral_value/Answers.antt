use Rattle.fidl_reading.proofs.Numbers.{digits_utf8, short_small}
use Rattle.fidl_reading.proofs.number.numeral_value.Goals as goal

pub returns-then-digits-le-FEW_DIGITS : goal.returns-then-digits-le-FEW_DIGITS
returns-then-digits-le-FEW_DIGITS c = (short_small c.args.digits.now c.requires.1 c.if-digits-le-FEW_DIGITS.true, c.short_value.ensures)

pub returns-in-Err : goal.returns-in-Err
returns-in-Err c = λ _. c.in-Err.ensures.cases.0 (digits_utf8 c.args.digits.now c.requires.1)
