use Rattle.std.proofs.Common.{take}
use Rattle.std.specs.List.{Any}
use Rattle.fidl_named.specs.Names.{path_text}
use Rattle.fidl_named.specs.Imports.{IsEntry}
use Rattle.fidl_named.specs.NameMaps.{seen}
use Rattle.fidl_names.proofs.import_cycles.find_import.Given as goal

-- no import so far names that library
abbrev pub invariant-loop-import : goal.invariant-loop-import
invariant-loop-import l = Any (λ i. IsEntry (seen l.libraries.entries) (path_text l.file.src.now i.path) l.edge.to) (take l.import-index l.file.imports.items) → ⊥
