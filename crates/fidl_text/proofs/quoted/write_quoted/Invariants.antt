use Rattle.std.proofs.Common.{◌≡◌}
use Rattle.fidl_text.proofs.Written.{IsSoFar}
use Rattle.fidl_text.proofs.Quoting.{quoted, quoted_left}
use Rattle.fidl_text.proofs.quoted.write_quoted.Given as goal

abbrev pub invariant-loop-byte : goal.invariant-loop-byte
invariant-loop-byte g l =
    IsSoFar (g.W.Write.contents l.fn.out.writer) (g.W.Write.contents l.out.writer) (quoted l.fn.text) (quoted_left l.fn.text l.byte-index)
    × (l.out.failure ≡ l.fn.out.failure)
