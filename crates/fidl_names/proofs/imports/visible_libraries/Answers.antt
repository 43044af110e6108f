use Rattle.std.proofs.Common.{rules, ◌≡◌, ◌++◌, ◌∷◌, List, take, get_or, Some, sym, ap, ◌∙◌, arith}
use Rattle.std.specs.Prelude.{slice_get}
use Rattle.std.proofs.lemmas.Option.{slice_get-get_or}
use Rattle.fidl_tree.specs.declared.file.Import.{Import}
use Rattle.fidl_named.specs.Names.{IsOneOf, path_text, library_of}
use Rattle.fidl_named.specs.Imports.{visible_by}
use Rattle.fidl_names.specs.ImportRules.{taken_names}
use Rattle.fidl_named.specs.NameMaps.{seen, texts_view, names_of}
use Rattle.fidl_cycles.proofs.Lists.{flat_take, all_take}
use Rattle.fidl_names.proofs.Seeing.{names_of-visible, reported_import}
use Rattle.fidl_names.proofs.imports.visible_libraries.Goals as goal

pub loop-import-preserved : goal.loop-import-preserved
loop-import-preserved c =
    let f = c.args.file.now in
    let i = c.loop-import.import-index in
    let item = c.import-item.result in
    let lt = c.loop-import-test.true in
    let is : item ≡ get_or f.imports.items i item = c.import-item.is ∙ ap (λ (is : List Import). get_or is i item) c.deref-import-items.ensures.value in
    record {
      ok = c.in_ok-add_import.ensures.ok
          ∙ ap (λ l. l ++ visible_by f.src.now item) c.loop-import.invariant.ok
          ∙ ap (λ l. (library_of f, library_of f) ∷ l) (sym (flat_take f.imports.items i item (omega (arith, c.deref-import-items.ensures.len)) is (visible_by f.src.now)));
      distinct = c.in_ok-add_import.ensures.distinct c.loop-import.invariant.distinct;
      known = all_take f.imports.items i item (omega (arith, c.deref-import-items.ensures.len)) is (λ (i : Import). IsOneOf (names_of (seen c.args.libraries.now.entries)) (path_text f.src.now i.path)) c.loop-import.invariant.known c.in_ok-add_import.ensures.known;
    }

pub returns-in_err-add_import-clause-fault_is_true : goal.returns-in_err-add_import-clause-fault_is_true
returns-in_err-add_import-clause-fault_is_true c =
    let f = c.args.file.now in
    let i = c.loop-import.import-index in
    let item = c.import-item.result in
    let lt = c.loop-import-test.true in
    let is : item ≡ get_or f.imports.items i item = c.import-item.is ∙ ap (λ (is : List Import). get_or is i item) c.deref-import-items.ensures.value in
    let at : slice_get f.imports.items i ≡ Some item = slice_get-get_or f.imports.items i item (omega (arith, c.deref-import-items.ensures.len)) ∙ ap (λ x. Some x) (sym is) in
    let names : names_of (texts_view c.loop-import.visible.entries) ≡ library_of f ∷ taken_names f.src.now (take i f.imports.items) =
    ap names_of c.loop-import.invariant.ok ∙ ap (λ l. library_of f ∷ l) (names_of-visible f.src.now (take i f.imports.items)) in
    let h = reported_import (names_of (seen c.args.libraries.now.entries)) f c.args.file_index i item _ _ at names c.in_err-add_import.ensures.fault_is_true in
    search (rules, h)
