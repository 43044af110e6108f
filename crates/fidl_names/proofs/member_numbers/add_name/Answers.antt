use Rattle.std.proofs.Common.{ℕ, [], ◌∷◌, ◌++◌, ap, sym, subst, ◌∙◌, true≢false}
use Rattle.std.specs.Global.{Vec}
use Rattle.std.proofs.lemmas.List.{map-append}
use Rattle.indexmap.proofs.CallerLemmas.{insert_entry-new}
use Rattle.fidl_named.specs.NameMaps.{seen}
use Rattle.fidl_named.specs.MemberNumbers.{AreNumbers}
use Rattle.fidl_named.proofs.Taken.{taken, none_there}
use Rattle.fidl_named.proofs.NumbersOfNames.{numbers_there, numbers_more}
use Rattle.fidl_names.proofs.member_numbers.add_name.Goals as goal

pub returns-then-contains_key : goal.returns-then-contains_key
returns-then-contains_key c = λ names long h.
    let es = c.args.numbers.now.entries in
    numbers_there names (seen es) c.args.name.items ((taken es c.args.name.items).0 (sym c.contains_key.ensures ∙ c.if-contains_key.true)) h

pub returns : goal.returns
returns c = λ names long h.
    let es = c.args.numbers.now.entries in
    let none = none_there _ (sym c.contains_key.ensures ∙ c.if-contains_key.false) in
    let more = c.in_ok-insert.ensures.entries ∙ insert_entry-new _ c.args.numbers.now c.args.name c.args.number none in
    let all = ap seen more ∙ map-append (λ (e : Vec ℕ × ℕ). (e.0.items, e.1)) es ((c.args.name, c.args.number) ∷ []) in
    subst (AreNumbers (names ++ c.args.name.items ∷ [])) (sym all)
    (subst (λ k. AreNumbers (names ++ c.args.name.items ∷ []) (seen es ++ (c.args.name.items, k) ∷ [])) long
    (numbers_more names (seen es) c.args.name.items (λ k. true≢false (sym ((taken es c.args.name.items).1 k) ∙ sym c.contains_key.ensures ∙ c.if-contains_key.false)) h))
