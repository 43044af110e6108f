use Rattle.std.proofs.Common.{◌+◌, ◌*◌, ◌<◌, arith}
use Rattle.std.proofs.lemmas.Int.Digits.{digits_value_more}
use Rattle.fidl_consts.proofs.NumberLaws.{step_below}
use Rattle.fidl_consts.proofs.numbers.digits_value.Goals as goal

pub returns-in_err-checked_mul-clause-none : goal.returns-in_err-checked_mul-clause-none
returns-in_err-checked_mul-clause-none c =
    let below = step_below c.args.base c.loop-digit.digit-index c.loop-digit.value c.args.digits.now c.requires c.loop-digit-test.true c.loop-digit.invariant in
    let big : ¬ (c.loop-digit.value * c.args.base < 18446744073709551616) = c.in_err-checked_mul.ensures in
    rw c.from_residual.ensures (omega arith)

pub returns-in_err-value-clause-none : goal.returns-in_err-value-clause-none
returns-in_err-value-clause-none c =
    let below = step_below c.args.base c.loop-digit.digit-index c.loop-digit.value c.args.digits.now c.requires c.loop-digit-test.true c.loop-digit.invariant in
    let product = c.in_ok-checked_mul.ensures in
    let digit = c.digit_value.ensures in
    let big : ¬ (c.in_ok-checked_mul.field-0 + c.digit_value.result < 18446744073709551616) = c.in_err-value.ensures in
    rw c.from_residual-in_err-value.ensures (omega (arith, product.1))

pub loop-digit-preserved : goal.loop-digit-preserved
loop-digit-preserved c =
    let more = digits_value_more c.args.base c.args.digits.now c.loop-digit.digit-index c.loop-digit-test.true in
    let product = c.in_ok-checked_mul.ensures in
    let total = c.in_ok-value.ensures in
    cc (product.1, total.1)
