use Rattle.std.proofs.Common.{take}
use Rattle.fidl_script.specs.Held.{lines_view}
use Rattle.fidl_script.specs.Collected.{AreCollected, places_view}
use Rattle.fidl_script.proofs.collecting.collect_bodies.Given as goal

abbrev pub invariant-loop-line : goal.invariant-loop-line
invariant-loop-line l = AreCollected l.methods (lines_view (take l.line-index l.lines)) (places_view l.places.items)
