use Rattle.std.proofs.Common.{◌+◌, ◌*◌, take, sym, ap, ◌∙◌, arith}
use Rattle.std.specs.Str.Parse.{digits_value}
use Rattle.fidl_reading.proofs.Numbers.{digit_more}
use Rattle.fidl_reading.proofs.number.short_value.Goals as goal

pub overflow_mul-value : goal.overflow_mul-value
overflow_mul-value c =
    let more = digit_more c.args.digits.now c.requires.numeral.1 c.requires.short c.loop-digit.digit-index c.loop-digit-test.true in
    record { fits = omega (arith, more.2, c.loop-digit.invariant.value) }

pub overflow_sub-digit : goal.overflow_sub-digit
overflow_sub-digit c = (digit_more c.args.digits.now c.requires.numeral.1 c.requires.short c.loop-digit.digit-index c.loop-digit-test.true).0

pub overflow_add-value : goal.overflow_add-value
overflow_add-value c =
    let more = digit_more c.args.digits.now c.requires.numeral.1 c.requires.short c.loop-digit.digit-index c.loop-digit-test.true in
    record { fits = omega (arith, more.2, c.loop-digit.invariant.value, c.from.ensures) }

pub loop-digit-preserved : goal.loop-digit-preserved
loop-digit-preserved c =
    let more = digit_more c.args.digits.now c.requires.numeral.1 c.requires.short c.loop-digit.digit-index c.loop-digit-test.true in
    record {
      value = ap (λ v. v * 10 + c.from.result) c.loop-digit.invariant.value ∙ ap (λ d. digits_value 10 (take c.loop-digit.digit-index c.args.digits.now) * 10 + d) c.from.ensures ∙ sym more.1;
    }
