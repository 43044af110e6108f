use Rattle.fidl_streams.proofs.Taking.{IsSoFar}
use Rattle.fidl_notation.proofs.Quoting.{quoted, quoted_left}
use Rattle.fidl_notation.proofs.quoted.write_quoted.Given as goal

abbrev pub invariant-loop-byte : goal.invariant-loop-byte
invariant-loop-byte g l =
    IsSoFar (g.W.Sink.taken l.fn.out) (g.W.Sink.taken l.out) (quoted l.fn.text) (quoted_left l.fn.text l.byte-index)
