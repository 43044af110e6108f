use Rattle.std.proofs.Common.{take}
use Rattle.std.specs.List.{AllByRecursion}
use Rattle.fidl_tree.specs.Views.{file_view}
use Rattle.fidl_names.specs.MemberLists.{ListsDiffer}
use Rattle.fidl_names.proofs.differ.check_members.Given as goal

-- those of the declarations so far differ
abbrev pub invariant-loop-declaration : goal.invariant-loop-declaration
invariant-loop-declaration l = AllByRecursion (ListsDiffer l.file.src.now) (take l.declaration-index (file_view l.file).declarations)
