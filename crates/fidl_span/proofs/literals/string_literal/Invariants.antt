use Rattle.std.proofs.Common.{length, ◌-◌, ◌<◌, ◌≤◌, slice_range}
use Rattle.fidl_span.specs.Strings.{IsOpenString}
use Rattle.fidl_span.proofs.literals.string_literal.Given as goal

abbrev pub invariant-loop-to : goal.invariant-loop-to
invariant-loop-to l = record {
  behind : l.quote < l.to;
  within : l.to ≤ length l.src;
  front : IsOpenString (slice_range l.src l.quote l.to);
}

abbrev pub decreases-loop-to : goal.decreases-loop-to
decreases-loop-to l = length l.src - l.to
