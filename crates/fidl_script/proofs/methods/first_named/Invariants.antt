use Rattle.fidl_script.specs.Named.{HasNoneNamed}
use Rattle.fidl_script.proofs.methods.first_named.Given as goal

abbrev pub invariant-loop-place : goal.invariant-loop-place
invariant-loop-place l = HasNoneNamed l.protocol l.place l.name
