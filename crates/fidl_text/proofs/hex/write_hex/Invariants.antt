use Rattle.std.proofs.Common.{◌≡◌}
use Rattle.std.specs.Prelude.{flat_map}
use Rattle.fidl_wire.specs.Text.{hex_byte}
use Rattle.fidl_text.proofs.Written.{IsSoFar}
use Rattle.fidl_text.proofs.HexLeft.{hex_left}
use Rattle.fidl_text.proofs.hex.write_hex.Given as goal

abbrev pub invariant-loop-byte : goal.invariant-loop-byte
invariant-loop-byte g l =
    IsSoFar (g.W.Write.contents l.fn.out.writer) (g.W.Write.contents l.out.writer) (flat_map hex_byte l.fn.bytes) (hex_left l.fn.bytes l.byte-index)
    × (l.out.failure ≡ l.fn.out.failure)
