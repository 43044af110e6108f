use Rattle.std.proofs.Common.{sym, ◌∙◌, arith}
use Rattle.fidl_spelling.specs.Words.{is_word_byte}
use Rattle.fidl_reading.proofs.Runs.{passes_more}
use Rattle.fidl_reading.proofs.lexer.run_end.Goals as goal

pub loop-to-preserved : goal.loop-to-preserved
loop-to-preserved c = record {
  ordered = omega (arith, c.loop-to.invariant.ordered);
  within = omega (arith, c.loop-to-test.true);
  passes = passes_more is_word_byte _ _ _ c.loop-to.invariant.ordered c.loop-to-test.true c.loop-to.invariant.passes (sym c.is_word_byte.ensures ∙ c.if-is_word_byte.true);
}
