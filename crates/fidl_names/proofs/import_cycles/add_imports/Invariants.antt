use Rattle.std.proofs.Common.{ℕ, take}
use Rattle.std.specs.Prelude.{◌⊎◌, ◌↔◌}
use Rattle.fidl_cycles.specs.Cycles.{IsEdge, points_of}
use Rattle.fidl_named.specs.NameMaps.{seen}
use Rattle.fidl_names.specs.ImportCycles.{HasEdge}
use Rattle.fidl_names.proofs.import_cycles.add_imports.Given as goal

-- the edges of before and those of the imports so far
abbrev pub invariant-loop-import : goal.invariant-loop-import
invariant-loop-import l = (one other : ℕ) → IsEdge (points_of l.graph) one other ↔ (IsEdge (points_of l.fn.graph) one other ⊎ HasEdge (seen l.libraries.entries) l.file (take l.import-index l.file.imports.items) one other)
