use Rattle.std.proofs.Common.{List, is_ok, sym, ap, subst, arith}
use Rattle.std.proofs.ResultArms.{chosen}
use Rattle.fidl_span.specs.declared.words.Word.{Word}
use Rattle.fidl_span.specs.Words.{AreWordsBetween}
use Rattle.fidl_span.proofs.WordLaws.{word_takes, words_then_word}
use Rattle.fidl_span.proofs.lexer.read_words.Goals as goal

pub loop-at-smaller : goal.loop-at-smaller
loop-at-smaller c =
    let takes = word_takes c.args.src.now c.in_ok-word.word c.in_ok-word.ensures.ok.1 in
    omega (arith, c.in_ok-word.ensures.ok.0, c.gap_end-at-in-loop-at.ensures.gap.ordered)

pub loop-at-preserved : goal.loop-at-preserved
loop-at-preserved c =
    let src = c.args.src.now in
    let gap = c.gap_end-at-in-loop-at.ensures in
    let word = c.in_ok-word.ensures.ok in
    let pushed = chosen _ _ _ _ c.push.ensures.items (ap is_ok c.in_ok-push.was) in
    let P : List Word → Type 0 = λ l. AreWordsBetween src 0 l c.gap_end-at-in-loop-at.result in
    record {
      within = gap.gap.within;
      so_far = subst P (sym pushed) (words_then_word src 0 c.loop-at.at _ c.loop-at.words.items c.in_ok-word.word c.loop-at.invariant.so_far word.0 word.1 gap.gap);
      no_gap = gap.no_more;
    }
