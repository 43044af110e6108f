use Rattle.std.proofs.Common.{map, take}
use Rattle.std.specs.List.{AllZip}
use Rattle.fidl_layout.specs.Roots.{AreStarts}
use Rattle.fidl_layout.proofs.roots.all_starts.Given as goal

-- the sets are those of the files so far
abbrev pub invariant-loop-file_index : goal.invariant-loop-file_index
invariant-loop-file_index l = AllZip AreStarts (take l.file_index l.named) (map (λ s. s.keys) l.found.items)
