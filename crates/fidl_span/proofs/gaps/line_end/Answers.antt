use Rattle.std.proofs.Common.{◌==◌, not, ne_eqb, eq-eqb, ap, arith}
use Rattle.fidl_span.proofs.RunLaws.{passes_more, stops_at_byte, stops_at_end}
use Rattle.fidl_span.proofs.gaps.line_end.Goals as goal

pub loop-to-preserved : goal.loop-to-preserved
loop-to-preserved c = record {
  ordered = omega arith;
  within = omega arith;
  passes = passes_more (λ b. not (b == 10)) _ _ _ c.loop-to.invariant.ordered c.loop-to-test.true c.loop-to.invariant.passes (ap not (ne_eqb _ 10 c.if-src-to-ne10.true));
}

pub returns-after-loop-to-clause-run : goal.returns-after-loop-to-clause-run
returns-after-loop-to-clause-run c = record { passes = c.loop-to.invariant.passes; stops = stops_at_end (λ b. not (b == 10)) _ _ c.loop-to-test.false }

pub returns-else-src-to-ne10-clause-run : goal.returns-else-src-to-ne10-clause-run
returns-else-src-to-ne10-clause-run c = record {
  passes = c.loop-to.invariant.passes;
  stops = stops_at_byte (λ b. not (b == 10)) _ _ c.loop-to-test.true (ap not (eq-eqb _ 10 c.if-src-to-ne10.false));
}
