use Rattle.std.proofs.Common.{sym, ◌∙◌, arith}
use Rattle.fidl_span.specs.Bytes.{is_word_byte}
use Rattle.fidl_span.proofs.RunLaws.{passes_more, stops_at_byte, stops_at_end}
use Rattle.fidl_span.proofs.names.word_end.Goals as goal

pub loop-to-preserved : goal.loop-to-preserved
loop-to-preserved c = record {
  ordered = omega arith;
  within = omega arith;
  passes = passes_more is_word_byte _ _ _ c.loop-to.invariant.ordered c.loop-to-test.true c.loop-to.invariant.passes (sym c.is_word_byte.ensures ∙ c.if-is_word_byte.true);
}

pub returns-after-loop-to-clause-run : goal.returns-after-loop-to-clause-run
returns-after-loop-to-clause-run c = record { passes = c.loop-to.invariant.passes; stops = stops_at_end is_word_byte _ _ c.loop-to-test.false }

pub returns-else-is_word_byte-clause-run : goal.returns-else-is_word_byte-clause-run
returns-else-is_word_byte-clause-run c = record {
  passes = c.loop-to.invariant.passes;
  stops = stops_at_byte is_word_byte _ _ c.loop-to-test.true (sym c.is_word_byte.ensures ∙ c.if-is_word_byte.false);
}
