use Rattle.std.proofs.Common.{take}
use Rattle.std.specs.List.{Any}
use Rattle.fidl_named.specs.NameMaps.{seen}
use Rattle.fidl_names.specs.ImportCycles.{HasEdge}
use Rattle.fidl_names.proofs.import_cycles.find_place.Given as goal

-- no file so far has such an import
abbrev pub invariant-loop-file_index : goal.invariant-loop-file_index
invariant-loop-file_index l = Any (λ f. HasEdge (seen l.libraries.entries) f f.imports.items l.edge.from l.edge.to) (take l.file_index l.set) → ⊥
