use Rattle.std.proofs.Common.{◌≡◌, ◌<◌, ◌*◌, ◌^◌, take}
use Rattle.std.specs.Str.Parse.{digits_value}
use Rattle.fidl_reading.proofs.escapes.hex_value.Given as goal

abbrev pub invariant-loop-digit : goal.invariant-loop-digit
invariant-loop-digit l = record {
  value : l.value ≡ digits_value 16 (take l.digit-index l.digits);
  room : l.value < 2 ^ (4 * l.digit-index);
}
