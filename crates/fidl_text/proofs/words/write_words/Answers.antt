use Rattle.std.proofs.Common.{◌+◌, map, ◌∙◌, arith}
use Rattle.std.specs.Prelude.{codes}
use Rattle.fidl_text.specs.Words.{word_text, words_line}
use Rattle.fidl_text.proofs.Written.{begin_failed, front_as, appends_as, so_far_begin, so_far_more, so_far_failed, so_far_written, so_far_as, failed_as}
use Rattle.fidl_text.proofs.Records.{words_left, words_begin, words_more, words_end}
use Rattle.fidl_text.proofs.words.write_words.Goals as goal

pub returns-in_err-write_all-clause-text : goal.returns-in_err-write_all-clause-text
returns-in_err-write_all-clause-text g c = failed_as _ _ _ c.from_residual.result c.from_residual.ensures.0
    (begin_failed _ _ (words_line c.args.first.now (map word_text c.args.rest.now)) c.args.first.now (words_left c.args.rest.now 0) (front_as _ _ _ _ c.as_bytes.ensures.value c.in_err-write_all.ensures.bytes) (words_begin c.args.first.now c.args.rest.now))

pub loop-word-init : goal.loop-word-init
loop-word-init g c = (
  so_far_begin _ _ (words_line c.args.first.now (map word_text c.args.rest.now)) c.args.first.now (words_left c.args.rest.now 0) (appends_as _ _ _ _ c.as_bytes.ensures.value c.in_ok-write_all.ensures.bytes) (words_begin c.args.first.now c.args.rest.now),
  c.in_ok-write_all.ensures.kept,
)

pub returns-in_err-write_next-clause-text : goal.returns-in_err-write_next-clause-text
returns-in_err-write_next-clause-text g c =
    let words = c.args.rest.now in
    failed_as _ _ _ c.from_residual-in_err-write_next.result c.from_residual-in_err-write_next.ensures.0
    (so_far_failed _ _ _ _ (words_left words c.loop-word.word-index) _ (words_left words (c.loop-word.word-index + 1)) c.loop-word.invariant.0 c.in_err-write_next.ensures.text (words_more words c.loop-word.word-index _ c.loop-word-test.true))

pub loop-word-preserved : goal.loop-word-preserved
loop-word-preserved g c =
    let words = c.args.rest.now in (
      so_far_more _ _ _ _ (words_left words c.loop-word.word-index) _ (words_left words (c.loop-word.word-index + 1)) c.loop-word.invariant.0 c.in_ok-write_next.ensures.text (words_more words c.loop-word.word-index _ c.loop-word-test.true),
      c.in_ok-write_next.ensures.kept ∙ c.loop-word.invariant.1,
    )

pub returns-clause-text : goal.returns-clause-text
returns-clause-text g c =
    let words = c.args.rest.now in
    let done = words_end words c.loop-word.word-index (omega (arith, c.loop-word-test.false)) in
    so_far_written _ _ _ _ (codes "\n") c.write_all-2.result (so_far_as _ _ _ (words_left words c.loop-word.word-index) (codes "\n") c.loop-word.invariant.0 done) c.write_all-2.ensures.bytes
