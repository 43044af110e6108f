use Rattle.std.proofs.Common.{◌≡◌, Some, take}
use Rattle.std.specs.Prelude.{slice_get}
use Rattle.fidl_tree.specs.declared.file.File.{File}
use Rattle.fidl_const.specs.Columns.{AreTargets, name_uses_view}
use Rattle.fidl_const.proofs.graph.targets.Given as goal

-- the numbers of what the names so far mean
abbrev pub invariant-loop-name : goal.invariant-loop-name
invariant-loop-name l = (f : File) → slice_get l.named l.file_index ≡ Some f → AreTargets l.named f l.numbers.starts.items (take l.name-index (name_uses_view l.uses)) l.row.items
