use Rattle.std.proofs.Common.{◌∷◌, [], ℕ, List, ap, sym, subst, ◌∙◌, true≢false}
use Rattle.std.specs.Global.{Vec}
use Rattle.std.proofs.lemmas.List.{map-append}
use Rattle.std.proofs.Math.ListN.{length-map}
use Rattle.indexmap.proofs.CallerLemmas.{insert_entry-new}
use Rattle.fidl_named.specs.NameMaps.{seen, names_of}
use Rattle.fidl_names.specs.ImportCycles.{AreNumbered}
use Rattle.fidl_named.proofs.Taken.{taken, none_there}
use Rattle.fidl_names.proofs.Sames.{same_there, same_as}
use Rattle.fidl_names.proofs.LibraryNumbers.{numbered_more}
use Rattle.fidl_names.proofs.rules.add_library.Goals as goal

pub returns-then-contains_key-clause-same : goal.returns-then-contains_key-clause-same
returns-then-contains_key-clause-same c =
    let es = c.args.libraries.now.entries in
    let there = (taken es c.args.name.items).0 (sym c.contains_key.ensures ∙ c.if-contains_key.true) in
    same_there (names_of (seen es)) c.args.name.items there

pub returns-clause-same : goal.returns-clause-same
returns-clause-same c =
    let es = c.args.libraries.now.entries in
    let none = none_there _ (sym c.contains_key.ensures ∙ c.if-contains_key.false) in
    let more = c.in_ok-insert.ensures.entries ∙ insert_entry-new _ c.args.libraries.now c.args.name c.len-number.result none in
    same_as _ _ (ap (λ l. names_of (seen l)) more ∙ ap names_of (map-append (λ (e : Vec ℕ × ℕ). (e.0.items, e.1)) es ((c.args.name, c.len-number.result) ∷ [])) ∙ map-append (λ (e : List ℕ × ℕ). e.0) (seen es) _)

pub returns-clause-numbered : goal.returns-clause-numbered
returns-clause-numbered c = λ h.
    let es = c.args.libraries.now.entries in
    let none = none_there _ (sym c.contains_key.ensures ∙ c.if-contains_key.false) in
    let more = c.in_ok-insert.ensures.entries ∙ insert_entry-new _ c.args.libraries.now c.args.name c.len-number.result none in
    let all = ap seen more ∙ map-append (λ (e : Vec ℕ × ℕ). (e.0.items, e.1)) es ((c.args.name, c.len-number.result) ∷ []) in
    let long = c.len-number.ensures.len ∙ sym (length-map es (λ (e : Vec ℕ × ℕ). (e.0.items, e.1))) in
    subst AreNumbered (sym all)
    (numbered_more (seen es) c.args.name.items c.len-number.result long (λ k. true≢false (sym ((taken es c.args.name.items).1 k) ∙ sym c.contains_key.ensures ∙ c.if-contains_key.false)) h)
