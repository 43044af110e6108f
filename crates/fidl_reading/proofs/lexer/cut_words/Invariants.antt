use Rattle.std.proofs.Common.{length, ◌-◌, ◌≤◌, ◌≡◌}
use Rattle.fidl_reading.specs.Cuts.{IsFront, texts_of, standing}
use Rattle.fidl_reading.proofs.lexer.cut_words.Given as goal

abbrev pub invariant-loop-at : goal.invariant-loop-at
invariant-loop-at l = record {
  within : l.at ≤ length l.text;
  places : standing l.text l.words.items ≡ texts_of l.words.items;
  front : IsFront l.text (texts_of l.words.items) l.at;
}

abbrev pub decreases-loop-at : goal.decreases-loop-at
decreases-loop-at l = length l.text - l.at
