use Rattle.std.proofs.Common.{◌≡◌, ◌∙◌, ◌∷◌, ◌++◌, [], Bool, true, false, not, map, length, sym, ap, subst, refl, arith, true≢false}
use Rattle.std.specs.Bool.{if◌then◌else◌}
use Rattle.std.specs.List.{list_any, Contains}
use Rattle.std.proofs.Math.ListN.{length-map}
use Rattle.std.proofs.lemmas.List.{length_push, map-append}
use Rattle.fidl_reachable_types.specs.Growing.{reference_view}
use Rattle.fidl_reachable_types.specs.Reached.{IsJoined}
use Rattle.fidl_reachable_types.specs.Keys.{words}
use Rattle.fidl_reachable_types.proofs.Known.{known, unknown, same_words}
use Rattle.fidl_reachable_types.proofs.Growth.{adds_one, joined_new, joined_known}
use Rattle.fidl_reachable_types.proofs.list.TypeList.add.Goals as goal

not_new : (b : Bool) → false ≡ not b → b ≡ true
not_new true e = refl
not_new false e = absurd (true≢false (sym e))

is_new : (b : Bool) → true ≡ not b → b ≡ false
is_new true e = absurd (true≢false e)
is_new false e = refl

-- src/list.rt:66:13
pub returns-then-not-is_new-clause-ok : goal.returns-then-not-is_new-clause-ok
returns-then-not-is_new-clause-ok c =
    let rs = c.args.self.now.types.items in
    let ks = c.args.self.now.known.keys in
    let r = c.args.of in
    let found : list_any (same_words c.in_ok-words.words.items) ks ≡ true = not_new (list_any (same_words c.in_ok-words.words.items) ks) (sym c.if-not-is_new.true ∙ c.in_ok-_place.ensures.added) in
    let there : Contains (map reference_view rs) (reference_view r) = known ks rs c.requires.kept.same r (subst (λ ws. list_any (same_words ws) ks ≡ true) c.in_ok-words.ensures found) in
    let keys : c.insert_full.new.self.keys ≡ ks = c.in_ok-_place.ensures.keys ∙ ap (λ b. if b then ks else (ks ++ c.in_ok-words.words ∷ [])) found in
    record {
      kept = record { same = ap (map (λ v. v.items)) keys ∙ c.requires.kept.same; within = c.requires.kept.within };
      limit = refl;
      joined = joined_known (map reference_view rs) (reference_view r) there;
    }

-- src/list.rt:69:13
pub returns-then-len-self-clause-full : goal.returns-then-len-self-clause-full
returns-then-len-self-clause-full c =
    let rs = c.args.self.now.types.items in
    let ks = c.args.self.now.known.keys in
    let r = c.args.of in
    let lacks : list_any (same_words c.in_ok-words.words.items) ks ≡ false = is_new (list_any (same_words c.in_ok-words.words.items) ks) (sym c.if-not-is_new.false ∙ c.in_ok-_place.ensures.added) in
    let fresh : Contains (map reference_view rs) (reference_view r) → ⊥ = unknown ks rs c.requires.kept.same r (subst (λ ws. list_any (same_words ws) ks ≡ false) c.in_ok-words.ensures lacks) in
    record { more = map reference_view rs ++ reference_view r ∷ []; adds = adds_one (map reference_view rs) (reference_view r) fresh; many = omega (arith, c.if-len-self.true, c.len.ensures, length_push (map reference_view rs) (reference_view r), length-map rs reference_view) }

-- src/list.rt:58:5
pub returns-clause-ok : goal.returns-clause-ok
returns-clause-ok c =
    let rs = c.args.self.now.types.items in
    let ks = c.args.self.now.known.keys in
    let r = c.args.of in
    let lacks : list_any (same_words c.in_ok-words.words.items) ks ≡ false = is_new (list_any (same_words c.in_ok-words.words.items) ks) (sym c.if-not-is_new.false ∙ c.in_ok-_place.ensures.added) in
    let fresh : Contains (map reference_view rs) (reference_view r) → ⊥ = unknown ks rs c.requires.kept.same r (subst (λ ws. list_any (same_words ws) ks ≡ false) c.in_ok-words.ensures lacks) in
    let keys : c.insert_full.new.self.keys ≡ ks ++ c.in_ok-words.words ∷ [] = c.in_ok-_place.ensures.keys ∙ ap (λ b. if b then ks else (ks ++ c.in_ok-words.words ∷ [])) lacks in
    let types : map reference_view c.push.new.self.items ≡ map reference_view rs ++ reference_view r ∷ [] = ap (map reference_view) c.in_ok-push.ensures.items ∙ map-append reference_view rs (r ∷ []) in
    record {
      kept = record {
        same = ap (map (λ v. v.items)) keys ∙ map-append (λ v. v.items) ks (c.in_ok-words.words ∷ []) ∙ ap (λ l. l ++ c.in_ok-words.words.items ∷ []) c.requires.kept.same ∙ ap (λ w. map words (map reference_view rs) ++ w ∷ []) c.in_ok-words.ensures ∙ sym (map-append words (map reference_view rs) (reference_view r ∷ [])) ∙ sym (ap (map words) types);
        within = omega (arith, c.if-len-self.false, c.len.ensures, ap length c.in_ok-push.ensures.items, length_push rs r);
      };
      limit = refl;
      joined = subst (IsJoined (map reference_view rs) (reference_view r ∷ [])) (sym types) (joined_new (map reference_view rs) (reference_view r) fresh);
    }
