use Rattle.std.proofs.Common.{length, ◌-◌, ◌≤◌, ◌==◌, not, slice_range, IsTrue}
use Rattle.std.specs.List.{list_all}
use Rattle.fidl_span.proofs.gaps.line_end.Given as goal

abbrev pub invariant-loop-to : goal.invariant-loop-to
invariant-loop-to l = record {
  ordered : l.from ≤ l.to;
  within : l.to ≤ length l.src;
  passes : IsTrue (list_all (λ b. not (b == 10)) (slice_range l.src l.from l.to));
}

abbrev pub decreases-loop-to : goal.decreases-loop-to
decreases-loop-to l = length l.src - l.to
