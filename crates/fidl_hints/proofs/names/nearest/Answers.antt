use Rattle.fidl_hints.proofs.Nearer.{step_at, none_of}
use Rattle.fidl_hints.proofs.names.nearest.Goals as goal

pub loop-name-preserved : goal.loop-name-preserved
loop-name-preserved c =
    step_at c.args.word.now c.args.names.now c.loop-name.name-index _ c.loop-name.best c.in_ok-near.field-0 c.nearer-best.result c.loop-name-test.true c.loop-name.invariant (c.in_ok-near.ensures.some) (c.in_ok-near.ensures.none) c.nearer-best.ensures

pub returns-in-None-clause-none : goal.returns-in-None-clause-none
returns-in-None-clause-none c = none_of c.args.word.now c.args.names.now c.loop-name.name-index c.loop-name.best c.loop-name-test.false c.in-None.is c.loop-name.invariant
