use Rattle.std.proofs.Common.{arith}
use Rattle.fidl_script.specs.Collected.{places_view}
use Rattle.fidl_script.proofs.Gathered.{no_bodies_at, no_bodies_long}
use Rattle.fidl_script.proofs.collecting.no_bodies.Goals as goal

pub returns-clause-long : goal.returns-clause-long
returns-clause-long c =
    let over = c.loop-place-test.false in
    no_bodies_long (places_view c.loop-place.places.items) c.loop-place._place c.args.count c.loop-place.invariant (omega arith)

pub returns-clause-none : goal.returns-clause-none
returns-clause-none c =
    let over = c.loop-place-test.false in
    no_bodies_at (places_view c.loop-place.places.items) c.loop-place._place c.args.count c.loop-place.invariant (omega arith)
