use Rattle.std.proofs.Common.{take, map}
use Rattle.std.specs.List.{AllByRecursion}
use Rattle.fidl_tree.specs.Views.{file_view}
use Rattle.fidl_member_rules.specs.Rules.{FileHolds}
use Rattle.fidl_member_rules.proofs.rules.check_layouts.Given as goal

-- the files so far keep the rules
abbrev pub invariant-loop-file_index : goal.invariant-loop-file_index
invariant-loop-file_index l = AllByRecursion FileHolds (take l.file_index (map file_view l.named))
