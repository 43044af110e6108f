use Rattle.std.proofs.Common.{◌≡◌, ℕ, ◌+◌, ◌*◌, ◌<◌}
use Rattle.std.specs.Prelude.{bit_or}
use Rattle.std.specs.Int.{w64}
use Rattle.fidl_wire.specs.Field.{number_at}
use Rattle.fidl_decode_columns.proofs.window.gather.Given as goal

-- each bit of those before this one was seen
abbrev pub invariant-loop-i : goal.invariant-loop-i
invariant-loop-i l = record {
  place : l.place ≡ l.start + l.apart * l._i;
  before : (k : ℕ) → k < l._i → bit_or (number_at w64 l.bytes (l.start + l.apart * k)) l.seen ≡ l.seen;
}
