use Rattle.std.proofs.Common.{◌≡◌, ◌<◌, ◌*◌, ◌^◌, take}
use Rattle.fidl_span.specs.Strings.{hex_value}
use Rattle.fidl_span.proofs.escapes.hex_value.Given as goal

abbrev pub invariant-loop-digit : goal.invariant-loop-digit
invariant-loop-digit l = record {
  value : l.value ≡ hex_value (take l.digit-index l.digits);
  room : l.value < 2 ^ (4 * l.digit-index);
}
