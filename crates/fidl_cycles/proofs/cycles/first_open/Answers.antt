use Rattle.std.proofs.Common.{arith}
use Rattle.std.proofs.lemmas.List.Elements.{Contains-get_or}
use Rattle.fidl_cycles.proofs.cycles.first_open.Goals as goal

pub bounds-done-targets : goal.bounds-done-targets
bounds-done-targets c = let lt = c.loop-i-test.true in c.requires.within _ (Contains-get_or c.args.targets.now c.loop-i.i 0 (omega arith))
