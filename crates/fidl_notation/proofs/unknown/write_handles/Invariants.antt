use Rattle.std.proofs.Common.{false}
use Rattle.fidl_wire.specs.Text.{handles_text}
use Rattle.fidl_streams.proofs.Taking.{IsSoFar}
use Rattle.fidl_notation.proofs.RawText.{handles_left}
use Rattle.fidl_notation.proofs.unknown.write_handles.Given as goal

abbrev pub invariant-loop-handle : goal.invariant-loop-handle
invariant-loop-handle g l =
    IsSoFar (g.W.Sink.taken l.fn.out) (g.W.Sink.taken l.out) (handles_text false l.fn.handles) (handles_left l.later l.fn.handles l.handle-index)
