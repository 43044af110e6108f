use Rattle.std.proofs.Common.{take, ◌↔◌, ℕ}
use Rattle.std.specs.List.{Contains, filter_map}
use Rattle.fidl_tree.specs.declared.declaration.Declaration.{Declaration}
use Rattle.fidl_layout.specs.Roots.{type_start}
use Rattle.fidl_layout.proofs.roots.type_starts.Given as goal

-- the set has the places of the declarations so far
abbrev pub invariant-loop-declaration : goal.invariant-loop-declaration
invariant-loop-declaration l = (n : ℕ) → Contains l.found.keys n ↔ Contains (filter_map (λ (d : Declaration). type_start d.body) (take l.declaration-index l.file.declarations.items)) n
