use Rattle.std.proofs.Common.{◌+◌, ◌*◌, take, sym, ap, ◌∙◌, arith}
use Rattle.fidl_span.specs.Strings.{hex_value}
use Rattle.fidl_span.proofs.EscapeLaws.{hex_value_more, each_digit, room_more, room_for_six}
use Rattle.fidl_span.proofs.escapes.hex_value.Goals as goal

pub overflow_mul-value : goal.overflow_mul-value
overflow_mul-value c =
    let small = room_for_six c.loop-digit.digit-index c.loop-digit.value (omega arith) c.loop-digit.invariant.room in
    omega arith

pub digit_value-requires : goal.digit_value-requires
digit_value-requires c = each_digit c.args.digits.now c.loop-digit.digit-index c.requires.hexadecimal c.loop-digit-test.true

pub overflow_add-value : goal.overflow_add-value
overflow_add-value c =
    let small = room_for_six c.loop-digit.digit-index c.loop-digit.value (omega arith) c.loop-digit.invariant.room in
    omega arith

pub loop-digit-preserved : goal.loop-digit-preserved
loop-digit-preserved c = record {
  value = ap (λ v. v * 16 + c.digit_value.result) c.loop-digit.invariant.value
      ∙ ap (λ d. hex_value (take c.loop-digit.digit-index c.args.digits.now) * 16 + d) c.digit_value.ensures.value
      ∙ sym (hex_value_more c.args.digits.now c.loop-digit.digit-index c.loop-digit-test.true);
  room = room_more c.loop-digit.digit-index c.loop-digit.value c.digit_value.result c.loop-digit.invariant.room c.digit_value.ensures.small;
}
