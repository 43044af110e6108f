use Rattle.std.proofs.Common.{take}
use Rattle.std.specs.List.{AllByRecursion}
use Rattle.fidl_member_rules.specs.ValueRules.{FileHolds}
use Rattle.fidl_member_rules.proofs.value_rules.check_values.Given as goal

-- the files so far keep the rules
abbrev pub invariant-loop-file_index : goal.invariant-loop-file_index
invariant-loop-file_index l = AllByRecursion (FileHolds l.named) (take l.file_index l.named)
