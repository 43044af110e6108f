use Rattle.std.proofs.Common.{◌≡◌, ◌+◌, ℕ, List, length, get_or, take, drop, ap, sym, subst, ◌∙◌, arith}
use Rattle.std.specs.Prelude.{◌↔◌}
use Rattle.std.specs.List.{Any}
use Rattle.std.specs.Global.{Vec}
use Rattle.std.proofs.lemmas.List.{take_all, take_at}
use Rattle.std.proofs.lemmas.Option.{get_or_from_slice_get}
use Rattle.fidl_tree.specs.declared.file.File.{File}
use Rattle.fidl_cycles.specs.Cycles.{IsEdge, points_of}
use Rattle.fidl_named.specs.NameMaps.{seen, names_of}
use Rattle.fidl_names.specs.ImportCycles.{HasEdge}
use Rattle.fidl_cycles.proofs.Lists.{any_more, any_none}
use Rattle.fidl_names.proofs.Graphs.{own_known, imports_known}
use Rattle.fidl_cycles.proofs.Lists.{all_more}
use Rattle.fidl_names.proofs.import_cycles.import_graph.Goals as goal

pub loop-file_index-init : goal.loop-file_index-init
loop-file_index-init c =
    let es = seen c.args.libraries.now.entries in record {
      long = c.in_ok-graph.ensures.long ∙ c.len.ensures.len;
      edges = λ one other. ((λ e. absurd (c.in_ok-graph.ensures.none one other e)), (λ a. absurd (any_none (λ (f : File). HasEdge es f f.imports.items one other) a)));
    }

pub add_imports-requires-clause-own : goal.add_imports-requires-clause-own
add_imports-requires-clause-own c = own_known (names_of (seen c.args.libraries.now.entries)) c.args.set.now c.requires.same c.loop-file_index.file_index c.file.result.now c.file.ensures

pub add_imports-requires-clause-known : goal.add_imports-requires-clause-known
add_imports-requires-clause-known c = imports_known (names_of (seen c.args.libraries.now.entries)) c.args.set.now c.requires.same c.loop-file_index.file_index c.file.result.now c.file.ensures c.requires.known

pub loop-file_index-preserved : goal.loop-file_index-preserved
loop-file_index-preserved c =
    let es = seen c.args.libraries.now.entries in
    let files = c.args.set.now in
    let i = c.loop-file_index.file_index in
    let f = c.file.result.now in
    let lt = c.loop-file_index-test.true in
    let long = c.count-file_index-end.ensures in
    let is : f ≡ get_or files i f = sym (get_or_from_slice_get files i f f c.file.ensures) in
    let old = c.deref_mut.result.now in
    let now = c.add_imports.new.graph in
    let value = c.deref_mut.ensures.value in
    let long_now : length now ≡ length old = c.add_imports.auto.graph in
    let back = take_at now (drop (length now) c.loop-file_index.graph.items) c.loop-file_index.graph.len (long_now ∙ c.deref_mut.ensures.len) in
    record {
      long = ap length back ∙ long_now ∙ ap length value ∙ c.loop-file_index.invariant.long;
      edges = λ one other.
          let before = subst (λ (g : List (Vec ℕ)). IsEdge (points_of g) one other ↔ Any (λ (f : File). HasEdge es f f.imports.items one other) (take i files)) (sym value) (c.loop-file_index.invariant.edges one other) in
          subst (λ (g : List (Vec ℕ)). IsEdge (points_of g) one other ↔ Any (λ (f : File). HasEdge es f f.imports.items one other) (take (i + 1) files)) (sym back)
          (all_more (IsEdge (points_of old) one other) (IsEdge (points_of now) one other) (Any (λ (f : File). HasEdge es f f.imports.items one other) (take i files)) (HasEdge es f f.imports.items one other) (Any (λ (f : File). HasEdge es f f.imports.items one other) (take (i + 1) files))
          before (c.in_ok-add_imports.ensures one other) (any_more (λ (f : File). HasEdge es f f.imports.items one other) files i f (omega arith) is));
    }

pub returns-clause-edges : goal.returns-clause-edges
returns-clause-edges c =
    let es = seen c.args.libraries.now.entries in
    let over = c.loop-file_index-test.false in
    let long = c.count-file_index-end.ensures in
    subst (λ (l : List File). (one other : ℕ) → IsEdge (points_of c.loop-file_index.graph.items) one other ↔ Any (λ (f : File). HasEdge es f f.imports.items one other) l) (take_all c.loop-file_index.file_index c.args.set.now (omega arith)) c.loop-file_index.invariant.edges
