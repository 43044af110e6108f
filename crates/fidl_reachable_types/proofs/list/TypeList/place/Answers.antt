use Rattle.std.proofs.Common.{◌≡◌, ◌∙◌, ℕ, false, List, Option, Some, None, IfSome, map, slice_get, refl, sym, subst}
use Rattle.std.specs.List.{list_any, position}
use Rattle.fidl_reachable_types.specs.Growing.{reference_view}
use Rattle.fidl_reachable_types.proofs.Known.{unknown, place_found, same_words}
use Rattle.fidl_reachable_types.proofs.list.TypeList.place.Goals as goal

each : (P : ℕ → Type 0) (o : Option ℕ) → ((i : ℕ) → o ≡ Some i → P i) → IfSome o P
each P None h = tt
each P (Some i) h = h i refl

-- src/list.rt:60:5
pub returns-clause-found : goal.returns-clause-found
returns-clause-found c =
    let found : List ℕ → Option ℕ = λ ws. position (same_words ws) c.args.self.now.known.keys in
    each (λ place. slice_get (map reference_view c.args.self.now.types.items) place ≡ Some (reference_view c.args.of)) c.get_index_of.result
    (λ i is. place_found c.args.self.now.known.keys c.args.self.now.types.items c.requires.kept.same c.args.of c.in_ok-words.words i
    (subst (λ ws. found ws ≡ Some i) c.in_ok-words.ensures (sym c.get_index_of.ensures.index ∙ is)))

-- src/list.rt:60:5
pub returns-clause-none : goal.returns-clause-none
returns-clause-none c = λ none.
    let ks = c.args.self.now.known.keys in
    unknown ks c.args.self.now.types.items c.requires.kept.same c.args.of
    (subst (λ ws. list_any (same_words ws) ks ≡ false) c.in_ok-words.ensures (sym c.get_index_of.ensures.found ∙ none))
