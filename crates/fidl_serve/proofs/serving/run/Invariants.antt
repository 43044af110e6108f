use Rattle.std.proofs.Common.{◌≡◌, ℕ, ◌+◌, ◌-◌, ◌≤◌, List}
use Rattle.std.specs.Prelude.{Option, Result}
use Rattle.fidl_streams.specs.Counts.{add_count}
use Rattle.fidl_requests.specs.declared.ended.Ended.{Ended}
use Rattle.fidl_serve.specs.Cursors.{left_of, ArePlaces}
use Rattle.fidl_serve.specs.Served.{Served}
use Rattle.fidl_serve.specs.declared.fault.ServeFault.{ServeFault}
use Rattle.fidl_serve.proofs.serving.run.Given as goal

-- what is served from here on, and what was served before, is served from the beginning
abbrev pub invariant-turns : goal.invariant-turns
invariant-turns g l = record {
  places : ArePlaces l.service.script.now l.places;
  counts : l.counts.sent + l.counts.left ≤ l.fn.reads;
  reads : g.R.Source.reads l.reader ≡ add_count (g.R.Source.reads l.fn.reader) (l.fn.reads - l.counts.left);
  read_failures : g.R.Source.failures l.reader ≡ g.R.Source.failures l.fn.reader;
  write_failures : (g.W.Sink.taken l.writer).failures ≡ (g.W.Sink.taken l.fn.writer).failures;
  rest : (left new : Option (List ℕ)) (result : Result Ended ServeFault)
      → Served l.service.protocol.now (left_of l.service.script.now l.places) l.counts.sent (g.R.Source.remaining l.reader) left (g.W.Sink.taken l.writer).contents new result
      → Served l.fn.service.protocol.now (left_of l.fn.service.script.now l.fn.places) 0 (g.R.Source.remaining l.fn.reader) left (g.W.Sink.taken l.fn.writer).contents new result;
}

abbrev pub decreases-turns : goal.decreases-turns
decreases-turns g l = l.counts.left
