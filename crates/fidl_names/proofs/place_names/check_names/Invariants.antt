use Rattle.std.proofs.Common.{take}
use Rattle.std.specs.List.{AllByRecursion}
use Rattle.fidl_names.specs.Resolved.{NamesHold}
use Rattle.fidl_names.proofs.place_names.check_names.Given as goal

-- the names of the files so far hold
abbrev pub invariant-loop-file_index : goal.invariant-loop-file_index
invariant-loop-file_index l = AllByRecursion (NamesHold l.named) (take l.file_index l.named)
