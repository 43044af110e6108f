use Rattle.std.proofs.Common.{length, ◌-◌, ◌≡◌, ◌<◌, ◌≤◌, take}
use Rattle.std.specs.Io.KnownBytes.{Consumes}
use Rattle.fidl_streams.specs.Counts.{add_count}
use Rattle.fidl_frames.proofs.filling.fill.Given as goal

-- the bytes that were read stand at the front of the buffer, and no read has failed
abbrev pub invariant-loop-count : goal.invariant-loop-count
invariant-loop-count g l = record {
  within : l.count ≤ length l.buffer;
  bytes : Consumes (g.R.Source.remaining l.fn.reader) (g.R.Source.remaining l.reader) (take l.count l.buffer);
  left : l.left ≤ l.fn.left;
  used : 0 < l.count → l.left < l.fn.left;
  counted : g.R.Source.reads l.reader ≡ add_count (g.R.Source.reads l.fn.reader) (l.fn.left - l.left);
  failed : g.R.Source.failures l.reader ≡ g.R.Source.failures l.fn.reader;
}

abbrev pub decreases-loop-count : goal.decreases-loop-count
decreases-loop-count g l = length l.initial.buffer - l.count
