use Rattle.std.proofs.Common.{◌≡◌, ℕ, length, take}
use Rattle.std.specs.Prelude.{◌↔◌}
use Rattle.std.specs.List.{Any}
use Rattle.fidl_cycles.specs.Cycles.{IsEdge, points_of}
use Rattle.fidl_named.specs.NameMaps.{seen}
use Rattle.fidl_names.specs.ImportCycles.{HasEdge}
use Rattle.fidl_names.proofs.import_cycles.import_graph.Given as goal

-- the edges are those of the files so far
abbrev pub invariant-loop-file_index : goal.invariant-loop-file_index
invariant-loop-file_index l = record {
  long : length l.graph.items ≡ length l.libraries.entries;
  edges : (one other : ℕ) → IsEdge (points_of l.graph.items) one other ↔ Any (λ f. HasEdge (seen l.libraries.entries) f f.imports.items one other) (take l.file_index l.set);
}
