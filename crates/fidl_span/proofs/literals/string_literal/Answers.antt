use Rattle.std.proofs.Common.{refl, arith}
use Rattle.fidl_span.proofs.PieceLaws.{open_more, string_closes}
use Rattle.fidl_span.proofs.literals.string_literal.Goals as goal

pub returns-then-src-to-eq34-clause-ok : goal.returns-then-src-to-eq34-clause-ok
returns-then-src-to-eq34-clause-ok c = (
  refl,
  record {
    span = record { ordered = omega arith; within = omega arith };
    reads = string_closes c.args.src.now c.args.quote c.loop-to.to (omega arith) c.loop-to-test.true c.if-src-to-eq34.true c.loop-to.invariant.front;
  },
)

pub loop-to-preserved : goal.loop-to-preserved
loop-to-preserved c =
    let found = c.in-Some.ensures.found in
    record {
      behind = omega arith;
      within = found.1;
      front = open_more c.args.src.now c.args.quote c.loop-to.to c.in-Some.end (omega arith) (omega arith) c.loop-to.invariant.front found.2;
    }
