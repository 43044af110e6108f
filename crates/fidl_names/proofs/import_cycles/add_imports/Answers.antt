use Rattle.std.proofs.Common.{◌≡◌, ◌<◌, ◌+◌, ℕ, List, length, get_or, take, ap, subst, ◌∙◌, arith}
use Rattle.std.specs.Prelude.{◌⊎◌, ◌↔◌}
use Rattle.std.proofs.lemmas.List.{take_all}
use Rattle.fidl_tree.specs.declared.file.Import.{Import}
use Rattle.fidl_cycles.specs.Cycles.{IsEdge, points_of}
use Rattle.fidl_named.specs.NameMaps.{seen}
use Rattle.fidl_names.specs.ImportCycles.{HasEdge}
use Rattle.fidl_names.proofs.Graphs.{both_more, edge_more}
use Rattle.fidl_names.proofs.import_cycles.add_imports.Goals as goal

pub loop-import-preserved : goal.loop-import-preserved
loop-import-preserved c = λ one other.
    let es = seen c.args.libraries.now.entries in
    let f = c.args.file.now in
    let i = c.loop-import.import-index in
    let item = c.import-item.result in
    let from = c.in_ok-from.from in
    let to = c.in_ok-to.to in
    let lt = c.loop-import-test.true in
    let within : i < length f.imports.items = omega (arith, c.deref-import-items.ensures.len) in
    let is : item ≡ get_or f.imports.items i item = c.import-item.is ∙ ap (λ (is : List Import). get_or is i item) c.deref-import-items.ensures.value in
    both_more (IsEdge (points_of c.loop-import.graph) one other) (IsEdge (points_of c.add_edge.new.graph) one other) (IsEdge (points_of c.args.graph.now) one other) (HasEdge es f (take i f.imports.items) one other) ((one ≡ from) × (other ≡ to)) (HasEdge es f (take (i + 1) f.imports.items) one other)
    (c.loop-import.invariant one other) (c.in_ok-add_edge.ensures one other)
    (edge_more es c.requires.numbered.names f f.imports.items i item within is from to c.in_ok-from.ensures c.in_ok-to.ensures one other)

pub returns : goal.returns
returns c =
    let es = seen c.args.libraries.now.entries in
    let f = c.args.file.now in
    let over = c.loop-import-test.false in
    let all = take_all c.loop-import.import-index f.imports.items (omega (arith, c.deref-import-items.ensures.len)) in
    subst (λ (l : List Import). (one other : ℕ) → IsEdge (points_of c.loop-import.graph) one other ↔ (IsEdge (points_of c.args.graph.now) one other ⊎ HasEdge es f l one other)) all c.loop-import.invariant
