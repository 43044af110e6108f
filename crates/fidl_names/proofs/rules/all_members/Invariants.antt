use Rattle.std.proofs.Common.{take}
use Rattle.std.specs.List.{AllByRecursion}
use Rattle.fidl_tree.specs.Views.{file_view}
use Rattle.fidl_names.specs.MemberLists.{DistinctMembers}
use Rattle.fidl_names.proofs.rules.all_members.Given as goal

-- the files so far have distinct members
abbrev pub invariant-loop-file_index : goal.invariant-loop-file_index
invariant-loop-file_index l = AllByRecursion (λ f. DistinctMembers (file_view f)) (take l.file_index l.set)
