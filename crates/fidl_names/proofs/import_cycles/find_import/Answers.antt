use Rattle.std.proofs.Common.{◌≡◌, ◌<◌, List, length, get_or, inl, inr, ap, sym, subst, ◌∙◌, arith}
use Rattle.std.specs.List.{Any}
use Rattle.std.proofs.lemmas.List.{take_all}
use Rattle.fidl_tree.specs.declared.file.Import.{Import}
use Rattle.fidl_named.specs.Names.{path_text, library_of}
use Rattle.fidl_named.specs.Imports.{IsEntry}
use Rattle.fidl_named.specs.NameMaps.{seen}
use Rattle.fidl_named.proofs.FullNames.{one_entry}
use Rattle.fidl_cycles.proofs.Lists.{any_more}
use Rattle.fidl_names.proofs.import_cycles.find_import.Goals as goal

pub returns-then-branch-edge-clause-none : goal.returns-then-branch-edge-clause-none
returns-then-branch-edge-clause-none c = λ _ h.
    let es = seen c.args.libraries.now.entries in
    c.if-branch-edge.true (one_entry es (library_of c.args.file.now) c.in_ok-library_number.field-0 c.args.edge.from c.requires.names c.in_ok-library_number.ensures h.from)

pub returns-then-branch-edge-2-clause-found : goal.returns-then-branch-edge-2-clause-found
returns-then-branch-edge-2-clause-found c =
    let es = seen c.args.libraries.now.entries in
    let f = c.args.file.now in
    let i = c.loop-import.import-index in
    let item = c.import-item.result in
    let lt = c.loop-import-test.true in
    let within : i < length f.imports.items = omega (arith, c.deref-import-items.ensures.len) in
    let is : item ≡ get_or f.imports.items i item = c.import-item.is ∙ ap (λ (is : List Import). get_or is i item) c.deref-import-items.ensures.value in
    record {
      an_import = item;
      stands = (i, within, sym is);
      from = subst (IsEntry es (library_of f)) c.if-branch-edge.false c.in_ok-library_number.ensures;
      to = subst (IsEntry es (path_text f.src.now item.path)) c.if-branch-edge-2.true c.in_ok-library_number-2.ensures;
      span_is = c.path_span.ensures;
    }

pub loop-import-preserved : goal.loop-import-preserved
loop-import-preserved c = λ a.
    let es = seen c.args.libraries.now.entries in
    let f = c.args.file.now in
    let i = c.loop-import.import-index in
    let item = c.import-item.result in
    let to = c.args.edge.to in
    let lt = c.loop-import-test.true in
    let within : i < length f.imports.items = omega (arith, c.deref-import-items.ensures.len) in
    let is : item ≡ get_or f.imports.items i item = c.import-item.is ∙ ap (λ (is : List Import). get_or is i item) c.deref-import-items.ensures.value in
    elim ((any_more (λ (i : Import). IsEntry es (path_text f.src.now i.path) to) f.imports.items i item within is).0 a) as (λ _. ⊥) [
      | inl old ↦ c.loop-import.invariant old
      | inr here ↦ c.if-branch-edge-2.false (one_entry es (path_text f.src.now item.path) c.in_ok-library_number-2.field-0 to c.requires.names c.in_ok-library_number-2.ensures here)
    ]

pub returns-clause-none : goal.returns-clause-none
returns-clause-none c = λ _ h.
    let es = seen c.args.libraries.now.entries in
    let f = c.args.file.now in
    let over = c.loop-import-test.false in
    let all = take_all c.loop-import.import-index f.imports.items (omega (arith, c.deref-import-items.ensures.len)) in
    c.loop-import.invariant (subst (Any (λ (i : Import). IsEntry es (path_text f.src.now i.path) c.args.edge.to)) (sym all) h.to)
