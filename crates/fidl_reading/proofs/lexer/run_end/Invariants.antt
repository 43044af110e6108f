use Rattle.std.proofs.Common.{length, ◌-◌, ◌≤◌, slice_range, IsTrue}
use Rattle.std.specs.List.{list_all}
use Rattle.fidl_spelling.specs.Words.{is_word_byte}
use Rattle.fidl_reading.proofs.lexer.run_end.Given as goal

abbrev pub invariant-loop-to : goal.invariant-loop-to
invariant-loop-to l = record {
  ordered : l.from ≤ l.to;
  within : l.to ≤ length l.text;
  passes : IsTrue (list_all is_word_byte (slice_range l.text l.from l.to));
}

abbrev pub decreases-loop-to : goal.decreases-loop-to
decreases-loop-to l = length l.text - l.to
