use Rattle.fidl_script.specs.Named.{Finds}
use Rattle.fidl_script.proofs.methods.places_by_name.Given as goal

abbrev pub invariant-loop-place : goal.invariant-loop-place
invariant-loop-place l = Finds l.protocol l.place l.places
