use Rattle.std.proofs.Common.{take}
use Rattle.std.specs.List.{AllByRecursion}
use Rattle.fidl_names.specs.MemberLists.{held, NamesDiffer}
use Rattle.fidl_names.proofs.differ.check_lists.Given as goal

-- those of the lists so far differ
abbrev pub invariant-loop-list : goal.invariant-loop-list
invariant-loop-list l = AllByRecursion (NamesDiffer l.file.src.now) (take l.list-index (held l.lists))
