use Rattle.std.specs.Prelude.{flat_map}
use Rattle.fidl_wire.specs.Text.{hex_byte}
use Rattle.fidl_streams.proofs.Taking.{IsSoFar}
use Rattle.fidl_notation.proofs.RawText.{hex_left}
use Rattle.fidl_notation.proofs.unknown.write_hex.Given as goal

abbrev pub invariant-loop-byte : goal.invariant-loop-byte
invariant-loop-byte g l =
    IsSoFar (g.W.Sink.taken l.fn.out) (g.W.Sink.taken l.out) (flat_map hex_byte l.fn.bytes) (hex_left l.fn.bytes l.byte-index)
