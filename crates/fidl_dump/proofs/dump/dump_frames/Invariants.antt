use Rattle.std.proofs.Common.{◌≡◌, ◌-◌, ◌≤◌, length, drop}
use Rattle.std.specs.Prelude.{None}
use Rattle.fidl_dump.proofs.Dumping.{IsSoFar}
use Rattle.fidl_dump.proofs.dump.dump_frames.Given as goal

-- the lines of the frames so far are written, the bytes behind them are as they came, and no write
-- has failed
abbrev pub invariant-loop-at : goal.invariant-loop-at
invariant-loop-at g l = record {
  so_far : IsSoFar l.stream.protocol.now l.stream.direction l.fn.bytes (drop l.at l.bytes) l.number (g.W.Write.contents l.fn.out.writer) (g.W.Write.contents l.out.writer);
  room : l.number ≤ l.at;
  within : l.at ≤ length l.bytes;
  long : length l.bytes ≡ length l.fn.bytes;
  error : l.fn.out.failure ≡ None → l.out.failure ≡ None;
}

abbrev pub decreases-loop-at : goal.decreases-loop-at
decreases-loop-at g l = length l.bytes - l.at
