use Rattle.std.proofs.Common.{◌≡◌, ◌<◌, ◌+◌, ◌*◌, take, sym, ap, ◌∙◌, arith}
use Rattle.std.specs.Str.Parse.{digits_value}
use Rattle.fidl_reading.proofs.Digits.{value_more, each_digit, room_more, room_for_six}
use Rattle.fidl_reading.proofs.escapes.hex_value.Goals as goal

pub overflow_mul-value : goal.overflow_mul-value
overflow_mul-value c =
    let small = room_for_six c.loop-digit.digit-index c.loop-digit.value (omega arith) c.loop-digit.invariant.room in
    omega arith

pub hex_digit_value-requires : goal.hex_digit_value-requires
hex_digit_value-requires c = each_digit c.args.digits.now c.loop-digit.digit-index c.requires.hexadecimal c.loop-digit-test.true

pub overflow_add-value : goal.overflow_add-value
overflow_add-value c =
    let small = room_for_six c.loop-digit.digit-index c.loop-digit.value (omega arith) c.loop-digit.invariant.room in
    omega arith

pub loop-digit-preserved : goal.loop-digit-preserved
loop-digit-preserved c =
    let same : c.from.result ≡ c.hex_digit_value.result = c.from.ensures in
    let small : c.from.result < 16 = omega (arith, same, c.hex_digit_value.ensures.small) in
    record {
      value = ap (λ v. v * 16 + c.from.result) c.loop-digit.invariant.value
          ∙ ap (λ d. digits_value 16 (take c.loop-digit.digit-index c.args.digits.now) * 16 + d) (same ∙ c.hex_digit_value.ensures.value)
          ∙ sym (value_more c.args.digits.now c.loop-digit.digit-index c.loop-digit-test.true);
      room = room_more c.loop-digit.digit-index c.loop-digit.value c.from.result c.loop-digit.invariant.room small;
    }
