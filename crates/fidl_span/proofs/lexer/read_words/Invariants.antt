use Rattle.std.proofs.Common.{length, ◌-◌, ◌≤◌, drop}
use Rattle.fidl_span.specs.Gaps.{BeginsNoGap}
use Rattle.fidl_span.specs.Words.{AreWordsBetween}
use Rattle.fidl_span.proofs.lexer.read_words.Given as goal

abbrev pub invariant-loop-at : goal.invariant-loop-at
invariant-loop-at l = record {
  within : l.at ≤ length l.src;
  so_far : AreWordsBetween l.src 0 l.words.items l.at;
  no_gap : BeginsNoGap (drop l.at l.src);
}

abbrev pub decreases-loop-at : goal.decreases-loop-at
decreases-loop-at l = length l.src - l.at
