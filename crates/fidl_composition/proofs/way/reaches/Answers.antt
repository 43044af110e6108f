use Rattle.std.proofs.Common.{◌≡◌, ◌∙◌, Bool, List, Some, nat_eq, refl, ap, sym, subst}
use Rattle.std.specs.Prelude.{◌↔◌, slice_get, IsTrue}
use Rattle.std.proofs.lemmas.Option.{slice_get_within}
use Rattle.std.specs.List.{Contains, list_any}
use Rattle.fidl_named.specs.declared.place.DeclarationId.{DeclarationId}
use Rattle.fidl_composition.proofs.Finding.{reaches_by, by_number, among_test}
use Rattle.fidl_composition.proofs.way.reaches.Goals as goal

pub returns-in_default : goal.returns-in_default
returns-in_default c = absurd (c.in_default.ensures.none refl (subst (λ (l : List DeclarationId). Contains l c.args.from) (sym c.protocols-ids.ensures) (c.requires.known.protocols.all c.args.from c.requires.from)))

pub returns-in_default-number_in : goal.returns-in_default-number_in
returns-in_default-number_in c = absurd (c.in_default-number_in.ensures.none refl (subst (λ (l : List DeclarationId). Contains l c.args.to) (sym c.protocols-ids.ensures) (c.requires.known.protocols.all c.args.to c.requires.to)))

pub reached-requires : goal.reached-requires
reached-requires c = record { within = slice_get_within c.args.compositions.now.0 c.in-Some.start c.args.from (subst (λ (l : List DeclarationId). slice_get l c.in-Some.start ≡ Some c.args.from) c.protocols-ids.ensures c.in-Some.ensures.found) }

pub returns : goal.returns
returns c =
    let ids = c.args.compositions.now.0 in
    let one = subst (λ (l : List DeclarationId). slice_get l c.in-Some.start ≡ Some c.args.from) c.protocols-ids.ensures c.in-Some.ensures.found in
    let other = subst (λ (l : List DeclarationId). slice_get l c.in-Some-number_in.end ≡ Some c.args.to) c.protocols-ids.ensures c.in-Some-number_in.ensures.found in
    let reached = c.in_ok-reached.ensures.reached c.args.named.now c.requires.known c.in-Some-number_in.end in
    let back = reaches_by c.args.named.now ids c.args.from c.args.to c.in-Some.start c.in-Some-number_in.end one other in
    let there = by_number c.args.named.now ids c.args.from c.args.to c.in-Some.start c.in-Some-number_in.end one other in
    let test : IsTrue c.contains.result ↔ Contains c.in_ok-reached.reached.items c.in-Some-number_in.end =
    subst (λ (b : Bool). IsTrue b ↔ Contains c.in_ok-reached.reached.items c.in-Some-number_in.end) (sym (c.contains.ensures.value ∙ ap (list_any (λ y. nat_eq y c.in-Some-number_in.end)) c.deref.ensures.value)) (among_test c.in_ok-reached.reached.items c.in-Some-number_in.end) in
    (λ e. back (reached.0 (test.0 e)), λ h. test.1 (reached.1 (there h)))
