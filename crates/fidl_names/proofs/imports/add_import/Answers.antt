use Rattle.std.proofs.Common.{rules, ◌≡◌, ◌++◌, ◌∷◌, [], false, sym, ap, subst, ◌∙◌, true≢false}
use Rattle.fidl_span.specs.declared.words.Span.{Span}
use Rattle.fidl_named.specs.declared.place.Place.{Place}
use Rattle.fidl_tree.specs.Leaf.{text_at}
use Rattle.fidl_named.specs.Names.{IsOneOf, path_text}
use Rattle.fidl_named.specs.Imports.{same}
use Rattle.fidl_named.specs.NameMaps.{seen, texts_view, names_of}
use Rattle.fidl_names.specs.TakenNames.{IsRepeated}
use Rattle.fidl_names.proofs.Seeing.{names_of-texts-more, reported_alias}
use Rattle.fidl_named.proofs.Taken.{taken}
use Rattle.fidl_names.proofs.imports.add_import.Goals as goal

pub returns-then-not-contains_key-clause-fault_is_true : goal.returns-then-not-contains_key-clause-fault_is_true
returns-then-not-contains_key-clause-fault_is_true c =
    let libraries = c.args.libraries.now.entries in
    let name = c.in_ok-library.library.items in
    let number = c.args.file_index in (
      (λ h. absurd (true≢false (sym ((taken libraries name).1 (subst (IsOneOf (names_of (seen libraries))) (sym c.in_ok-library.ensures) h)) ∙ sym c.contains_key.ensures ∙ c.if-not-contains_key.true))),
      ap (λ (s : Span). let p : Place = record { file = number; span = s } in p) c.path_span-span.ensures,
    )

pub returns-in-None-clause-known : goal.returns-in-None-clause-known
returns-in-None-clause-known c =
    let libraries = c.args.libraries.now.entries in
    let name = c.in_ok-library.library.items in
    subst (IsOneOf (names_of (seen libraries))) c.in_ok-library.ensures ((taken libraries name).0 (sym c.contains_key.ensures ∙ c.if-not-contains_key.false))

pub returns-in-None-clause-distinct : goal.returns-in-None-clause-distinct
returns-in-None-clause-distinct c = c.in_ok-add_visible.ensures.distinct

pub returns-in_ok-add_alias-in-Some-clause-known : goal.returns-in_ok-add_alias-in-Some-clause-known
returns-in_ok-add_alias-in-Some-clause-known c =
    let libraries = c.args.libraries.now.entries in
    let name = c.in_ok-library.library.items in
    subst (IsOneOf (names_of (seen libraries))) c.in_ok-library.ensures ((taken libraries name).0 (sym c.contains_key.ensures ∙ c.if-not-contains_key.false))

pub returns-in_err-add_alias-in-Some-clause-fault_is_true : goal.returns-in_err-add_alias-in-Some-clause-fault_is_true
returns-in_err-add_alias-in-Some-clause-fault_is_true c =
    let src = c.args.file.now.src.now in
    let i = c.args.import.now in
    let a = c.in-Some.alias in
    let old = c.args.visible.now.entries in
    let library : c.in_ok-library.library.items ≡ path_text src i.path = c.in_ok-library.ensures in
    let own : c.in_ok-name.name.items ≡ path_text src i.path = c.in_ok-name.ensures.items ∙ c.deref.ensures.value ∙ library in
    let text : c.text.result.now ≡ text_at src a.name = c.text.ensures.bytes in
    let names : names_of (texts_view c.add_visible.new.visible.entries) ≡ names_of (texts_view old) ++ path_text src i.path ∷ [] =
    ap (λ es. names_of (texts_view es)) c.in_ok-add_visible.ensures.ok
    ∙ names_of-texts-more old c.in_ok-name.name c.in_ok-own.own
    ∙ ap (λ n. names_of (texts_view old) ++ n ∷ []) own in
    let other : same (text_at src a.name) (path_text src i.path) ≡ false =
    ap (λ t. same t (path_text src i.path)) (sym text) ∙ ap (same c.text.result.now) (sym library) ∙ c.in_err-add_alias-in-Some.ensures.other in
    let fault_is_true = subst (λ t. IsRepeated (texts_view c.add_visible.new.visible.entries) t (record { file = c.args.file_index; span = a.name }) c.in_err-add_alias-in-Some.field-0.0) text c.in_err-add_alias-in-Some.ensures.fault_is_true in
    let h = reported_alias src i a c.args.file_index (names_of (seen c.args.libraries.now.entries)) (names_of (texts_view old)) (texts_view c.add_visible.new.visible.entries) c.in_err-add_alias-in-Some.field-0.0 c.in-Some.is other names fault_is_true in
    search (rules, h)
