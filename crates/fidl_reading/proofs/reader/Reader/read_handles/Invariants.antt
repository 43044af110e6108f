use Rattle.std.proofs.Common.{◌<◌, ◌++◌, length}
use Rattle.fidl_reading.specs.Cuts.{texts_of}
use Rattle.fidl_reading.specs.Reads.{AHandleList, has_some}
use Rattle.fidl_reading.proofs.Leading.{Leads}
use Rattle.fidl_reading.proofs.Listing.{HandlesLeft}
use Rattle.fidl_reading.proofs.reader.Reader.read_handles.Given as goal

abbrev pub invariant-loop-handles : goal.invariant-loop-handles
invariant-loop-handles l = record {
  leads : Leads AHandleList (texts_of l.words) (HandlesLeft (has_some l.handles)) (texts_of l.left) (λ hs. l.handles ++ hs);
  fewer : length l.left < length l.words;
}

abbrev pub decreases-loop-handles : goal.decreases-loop-handles
decreases-loop-handles l = length l.left
