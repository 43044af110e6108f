use Rattle.std.proofs.Common.{◌≡◌, map}
use Rattle.fidl_text.specs.Words.{word_text, words_line}
use Rattle.fidl_text.proofs.Written.{IsSoFar}
use Rattle.fidl_text.proofs.Records.{words_left}
use Rattle.fidl_text.proofs.words.write_words.Given as goal

abbrev pub invariant-loop-word : goal.invariant-loop-word
invariant-loop-word g l =
    IsSoFar (g.W.Write.contents l.fn.out.writer) (g.W.Write.contents l.out.writer) (words_line l.fn.first (map word_text l.fn.rest)) (words_left l.fn.rest l.word-index)
    × (l.out.failure ≡ l.fn.out.failure)
