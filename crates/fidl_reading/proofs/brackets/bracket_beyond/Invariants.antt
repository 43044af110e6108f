use Rattle.std.proofs.Common.{ℕ, ◌≡◌, ◌≤◌, ◌+◌, take}
use Rattle.std.specs.Prelude.{count_by}
use Rattle.fidl_limits.specs.declared.limits.TheConstants.{MAX_TEXT_BRACKETS}
use Rattle.fidl_spelling.specs.Words.{opens, closes}
use Rattle.fidl_reading.specs.Cuts.{texts_of}
use Rattle.fidl_reading.proofs.brackets.bracket_beyond.Given as goal

abbrev pub invariant-loop-word : goal.invariant-loop-word
invariant-loop-word l = record {
  opened : l.opened ≡ count_by opens (take l.word-index (texts_of l.words));
  closed : l.closed ≡ count_by closes (take l.word-index (texts_of l.words));
  so_far : (n : ℕ) → n ≤ l.word-index → count_by opens (take n (texts_of l.words)) ≤ count_by closes (take n (texts_of l.words)) + MAX_TEXT_BRACKETS;
}
