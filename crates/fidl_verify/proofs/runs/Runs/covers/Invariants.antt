use Rattle.std.proofs.Common.{◌≤◌, ◌-◌, length}
use Rattle.fidl_verify.specs.Runs.{AreOf, AreRuns}
use Rattle.fidl_verify.proofs.runs.Runs.covers.Given as goal

abbrev pub invariant-loop-at : goal.invariant-loop-at
invariant-loop-at l = record {
  runs : AreRuns l.fn.self.class l.fn.self.names.now l.self;
  ordered : l.start ≤ l.at;
  within : l.at ≤ length l.fn.self.names.now;
  known : AreOf l.fn.self.class l.fn.self.names.now l.start l.at;
}

abbrev pub decreases-loop-at : goal.decreases-loop-at
decreases-loop-at l = l.end - l.at
