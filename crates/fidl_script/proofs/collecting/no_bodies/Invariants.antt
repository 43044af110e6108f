use Rattle.std.proofs.Common.{◌≡◌, []}
use Rattle.std.specs.Prelude.{replicate}
use Rattle.fidl_script.specs.Collected.{places_view}
use Rattle.fidl_script.proofs.collecting.no_bodies.Given as goal

abbrev pub invariant-loop-place : goal.invariant-loop-place
invariant-loop-place l = places_view l.places.items ≡ replicate l._place []
