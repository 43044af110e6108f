use Rattle.std.proofs.Common.{◌≡◌, get_or, inl, inr, ap, sym, subst, arith}
use Rattle.std.specs.Prelude.{is_some}
use Rattle.std.specs.List.{Any}
use Rattle.std.proofs.lemmas.List.{take_all}
use Rattle.std.proofs.lemmas.Option.{get_or_from_slice_get}
use Rattle.fidl_tree.specs.declared.file.File.{File}
use Rattle.fidl_named.specs.NameMaps.{seen, names_of}
use Rattle.fidl_names.specs.ImportCycles.{HasEdge}
use Rattle.fidl_cycles.proofs.Lists.{any_more}
use Rattle.fidl_names.proofs.Graphs.{own_known, imports_known}
use Rattle.fidl_names.proofs.import_cycles.find_place.Goals as goal

pub find_import-requires-clause-own : goal.find_import-requires-clause-own
find_import-requires-clause-own c = own_known (names_of (seen c.args.libraries.now.entries)) c.args.set.now c.requires.same c.loop-file_index.file_index c.file.result.now c.file.ensures

pub find_import-requires-clause-known : goal.find_import-requires-clause-known
find_import-requires-clause-known c = imports_known (names_of (seen c.args.libraries.now.entries)) c.args.set.now c.requires.same c.loop-file_index.file_index c.file.result.now c.file.ensures c.requires.known

pub returns-in-Some : goal.returns-in-Some
returns-in-Some c =
    let here = rw c.in-Some.is at c.in_ok-span.ensures.found in
    record { file = c.file.result.now; file_at = c.file.ensures; edge = here }

pub loop-file_index-preserved : goal.loop-file_index-preserved
loop-file_index-preserved c = λ a.
    let es = seen c.args.libraries.now.entries in
    let files = c.args.set.now in
    let i = c.loop-file_index.file_index in
    let f = c.file.result.now in
    let edge = c.args.edge in
    let lt = c.loop-file_index-test.true in
    let long = c.count-file_index-end.ensures in
    let is : f ≡ get_or files i f = sym (get_or_from_slice_get files i f f c.file.ensures) in
    elim ((any_more (λ (f : File). HasEdge es f f.imports.items edge.from edge.to) files i f (omega arith) is).0 a) as (λ _. ⊥) [
      | inl old ↦ c.loop-file_index.invariant old
      | inr here ↦ c.in_ok-span.ensures.none (ap is_some c.in_default.is) here
    ]

pub unreachable-requires : goal.unreachable-requires
unreachable-requires c =
    let es = seen c.args.libraries.now.entries in
    let edge = c.args.edge in
    let over = c.loop-file_index-test.false in
    let long = c.count-file_index-end.ensures in
    c.loop-file_index.invariant (subst (Any (λ (f : File). HasEdge es f f.imports.items edge.from edge.to)) (sym (take_all c.loop-file_index.file_index c.args.set.now (omega arith))) c.requires.there)
