use Rattle.std.proofs.Common.{arith, ◌-◌, ◌∙◌}
use Rattle.fidl_serve.proofs.Going.{goes_then, counted_then}
use Rattle.fidl_serve.proofs.serving.run.Goals as goal

pub turns-preserved : goal.turns-preserved
turns-preserved g c =
    record {
      places = c.in-Ok-None.ensures.places;
      counts = omega (arith, c.in-Ok-None.ensures.counts, c.turns.invariant.counts);
      reads = counted_then _ _ _ _ _ _ (omega (arith, c.turns.invariant.counts)) c.in-Ok-None.ensures.left c.turns.invariant.reads c.in-Ok-None.ensures.reads;
      read_failures = c.in-Ok-None.ensures.read_failures ∙ c.turns.invariant.read_failures;
      write_failures = c.in-Ok-None.ensures.write_failures ∙ c.turns.invariant.write_failures;
      rest = λ left new result s. c.turns.invariant.rest left new result (goes_then _ _ _ _ _ _ _ _ _ _ _ _ (rw c.in-Ok-None.field-0-is at c.in-Ok-None.ensures.turns) s);
    }

pub returns-in-Ok-Some-clause-reads : goal.returns-in-Ok-Some-clause-reads
returns-in-Ok-Some-clause-reads g c = (
  c.args.reads - c.turn.new.counts.left,
  omega arith,
  counted_then _ _ _ _ _ _ (omega (arith, c.turns.invariant.counts)) c.in-Ok-Some.ensures.left c.turns.invariant.reads c.in-Ok-Some.ensures.reads,
  λ h. cc,
)

pub returns-in-Err-clause-reads : goal.returns-in-Err-clause-reads
returns-in-Err-clause-reads g c = (
  c.args.reads - c.turn.new.counts.left,
  omega arith,
  counted_then _ _ _ _ _ _ (omega (arith, c.turns.invariant.counts)) c.in-Err.ensures.left c.turns.invariant.reads c.in-Err.ensures.reads,
  λ h. omega (arith, c.in-Err.ensures.spent (cc)),
)
