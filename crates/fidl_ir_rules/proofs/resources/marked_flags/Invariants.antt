use Rattle.std.proofs.Common.{◌≡◌, ◌++◌, map, drop}
use Rattle.fidl_ir_rules.specs.Resources.{is_marked}
use Rattle.fidl_ir_rules.proofs.resources.marked_flags.Given as goal

-- the flags so far and those to come are all
abbrev pub invariant-loop-mark : goal.invariant-loop-mark
invariant-loop-mark l = l.flags.items ++ map is_marked (drop l.mark-index l.marks) ≡ map is_marked l.marks
