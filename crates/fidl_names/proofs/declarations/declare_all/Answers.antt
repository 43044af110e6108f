use Rattle.std.proofs.Common.{rules, ◌≡◌, ◌++◌, ◌∷◌, [], length, take, get_or, List, ap, sym, subst, ◌∙◌, arith, length-append, Some}
use Rattle.std.specs.Prelude.{codes, slice_get}
use Rattle.std.proofs.lemmas.List.{take_all, append_assoc, take-append-le, map-append}
use Rattle.std.proofs.lemmas.Option.{slice_get-get_or}
use Rattle.fidl_tree.specs.Leaf.{text_at}
use Rattle.fidl_tree.specs.declared.declaration.Declaration.{Declaration}
use Rattle.fidl_span.specs.declared.words.Span.{Span}
use Rattle.fidl_named.specs.Names.{AreDistinct, entries_of, library_of, full_name, place_in}
use Rattle.fidl_named.specs.declared.place.Place.{Place}
use Rattle.fidl_named.specs.declared.place.DeclarationId.{DeclarationId}
use Rattle.fidl_named.specs.NameMaps.{seen, names_of}
use Rattle.fidl_names.proofs.Adding.{distinct_more, names_more, seen_more, length-entries, entries_more, names_so_far, reported_taken}
use Rattle.fidl_names.proofs.declarations.declare_all.Goals as goal

pub loop-index-preserved : goal.loop-index-preserved
loop-index-preserved c =
    let f = c.args.file.now in
    let n = c.args.file_index in
    let i = c.loop-index.index in
    let d = c.declaration-item.result in
    let old = c.args.names.now.entries in
    let lt = c.loop-index-test.true in
    let items = c.deref-declaration-items.ensures.value in
    let is : d ≡ get_or f.declarations.items i d = c.declaration-item.is ∙ ap (λ (ds : List Declaration). get_or ds i d) items in
    let name : c.in_ok-name.name.items ≡ full_name f d =
    c.in_ok-name.ensures
    ∙ ap (λ l. l ++ codes "/" ++ c.text.result.now) (c.deref.ensures.value ∙ c.in_ok-library.ensures)
    ∙ ap (λ l. library_of f ++ codes "/" ++ l) (c.text.ensures.bytes ∙ ap (λ (s : Span). text_at f.src.now s) c.name_span-span.ensures) in
    let id : DeclarationId = record { file = n; index = i } in
    let now = ap seen c.in_ok-declare.ensures.ok ∙ seen_more c.loop-index.names.entries c.in_ok-name.name id in
    let more = entries_more f n i d (omega (arith, c.deref-declaration-items.ensures.len)) is in
    let long = c.loop-index.invariant.long in
    let grown = ap length c.in_ok-declare.ensures.ok in
    record {
      ok = now
          ∙ ap (λ l. l ++ (c.in_ok-name.name.items, id) ∷ []) c.loop-index.invariant.ok
          ∙ append_assoc (seen old) (take i (entries_of f n)) ((c.in_ok-name.name.items, id) ∷ [])
          ∙ ap (λ l. seen old ++ (take i (entries_of f n) ++ (l, id) ∷ [])) name
          ∙ ap (λ l. seen old ++ l) (sym more);
      kept = ap (take (length old)) c.in_ok-declare.ensures.ok
          ∙ take-append-le (length old) c.loop-index.names.entries ((c.in_ok-name.name, id) ∷ []) long
          ∙ c.loop-index.invariant.kept;
      long = omega (arith, grown, length-append c.loop-index.names.entries ((c.in_ok-name.name, id) ∷ []));
      distinct = λ h. subst AreDistinct (sym (ap names_of now ∙ names_more (seen c.loop-index.names.entries) (c.in_ok-name.name.items, id))) (distinct_more (names_of (seen c.loop-index.names.entries)) c.in_ok-name.name.items (c.loop-index.invariant.distinct h) c.in_ok-declare.ensures.fresh);
    }

pub returns-clause-ok : goal.returns-clause-ok
returns-clause-ok c =
    let over = c.loop-index-test.false in
    let long = length-entries c.args.file.now c.args.file_index in
    c.loop-index.invariant.ok ∙ ap (λ l. seen c.args.names.now.entries ++ l) (take_all c.loop-index.index (entries_of c.args.file.now c.args.file_index) (omega (arith, c.deref-declaration-items.ensures.len)))

pub returns-in_err-declare-clause-fault_is_true : goal.returns-in_err-declare-clause-fault_is_true
returns-in_err-declare-clause-fault_is_true c =
    let f = c.args.file.now in
    let n = c.args.file_index in
    let i = c.loop-index.index in
    let d = c.declaration-item.result in
    let before = names_of (seen c.args.names.now.entries) in
    let lt = c.loop-index-test.true in
    let items = c.deref-declaration-items.ensures.value in
    let is : d ≡ get_or f.declarations.items i d = c.declaration-item.is ∙ ap (λ (ds : List Declaration). get_or ds i d) items in
    let at : slice_get f.declarations.items i ≡ Some d = slice_get-get_or f.declarations.items i d (omega (arith, c.deref-declaration-items.ensures.len)) ∙ ap (λ x. Some x) (sym is) in
    let name : c.in_ok-name.name.items ≡ full_name f d =
    c.in_ok-name.ensures
    ∙ ap (λ l. l ++ codes "/" ++ c.text.result.now) (c.deref.ensures.value ∙ c.in_ok-library.ensures)
    ∙ ap (λ l. library_of f ++ codes "/" ++ l) (c.text.ensures.bytes ∙ ap (λ (s : Span). text_at f.src.now s) c.name_span-span.ensures) in
    let names = ap names_of c.loop-index.invariant.ok
    ∙ map-append _ (seen c.args.names.now.entries) (take i (entries_of f n))
    ∙ ap (λ l. before ++ l) (names_so_far f n i) in
    let place : Place = record { file = n; span = c.name_span-span.result } in
    let there : place ≡ place_in n d = ap (λ (s : Span). record { file = n; span = s }) c.name_span-span.ensures in
    let h = reported_taken f n before (seen c.loop-index.names.entries) i d c.in_ok-name.name.items place _ at names name there c.in_err-declare.ensures.taken in
    search (rules, h)
