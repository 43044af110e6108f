-- Whether a list has a type, by its words.
use Rattle.std.proofs.Common.{◌≡◌, ◌∙◌, ◌<◌, ℕ, Bool, true, false, ◌||◌, List, [], ◌∷◌, Some, length, map, get_or, slice_get, nat_eq, refl, sym, ap, subst, inl, inr, true≢false}
use Rattle.std.specs.Option.{option_map}
use Rattle.std.specs.List.{position}
use Rattle.std.proofs.Math.ListN.{length-map}
use Rattle.std.specs.Prelude.{unwrap_or}
use Rattle.std.proofs.lemmas.List.Quantifiers.{position-Some}
use Rattle.std.proofs.lemmas.Option.{slice_get-get_or, slice_get-map}
use Rattle.std.specs.Bool.{Decides}
use Rattle.std.specs.Global.{Vec}
use Rattle.std.specs.List.{Contains, list_any}
use Rattle.std.specs.Cmp.Lexicographic.{pointwise}
use Rattle.std.proofs.lemmas.Slice.Eq.{slice_eq-Decides}
use Rattle.std.proofs.lemmas.Bool.Decides.{Decides-eqb}
use Rattle.fidl_wire.specs.Term.{Term}
use Rattle.fidl_reachable_types.specs.declared.list.TypeRef.{TypeRef}
use Rattle.fidl_reachable_types.specs.Keys.{words}
use Rattle.fidl_reachable_types.specs.Growing.{reference_view}
use Rattle.fidl_reachable_types.proofs.Members.{here, there, nothing_there, first_or_rest}
use Rattle.fidl_reachable_types.proofs.Words.{same_type}

-- the test of the set
abbrev pub same_words : List ℕ → Vec ℕ → Bool
same_words ws key = pointwise nat_eq ws key.items

words_test : (ws : List ℕ) (key : Vec ℕ) → Decides (same_words ws key) (ws ≡ key.items)
words_test ws key = slice_eq-Decides Decides-eqb ws key.items (same_words ws key) refl

among_keys : (ws : List ℕ) (keys : List (Vec ℕ)) → Decides (list_any (same_words ws) keys) (Contains (map (λ v. v.items) keys) ws)
among_keys ws [] = ((λ e. absurd (true≢false (sym e))), λ h. absurd (nothing_there ws h))
among_keys ws (key ∷ keys) = among (among_keys ws keys) (same_words ws key) refl
  where
    found : Decides (list_any (same_words ws) keys) (Contains (map (λ v. v.items) keys) ws) → Contains (map (λ v. v.items) (key ∷ keys)) ws → same_words ws key ≡ false → list_any (same_words ws) keys ≡ true
    found rest h other = elim (first_or_rest key.items (map (λ v. v.items) keys) ws h) [
      | inl is ↦ absurd (true≢false (sym ((words_test ws key).1 (sym is)) ∙ other))
      | inr later ↦ rest.1 later
    ]

    among : Decides (list_any (same_words ws) keys) (Contains (map (λ v. v.items) keys) ws) → (b : Bool) → same_words ws key ≡ b → Decides (b || list_any (same_words ws) keys) (Contains (map (λ v. v.items) (key ∷ keys)) ws)
    among rest true is = ((λ _. subst (λ x. Contains (x ∷ map (λ v. v.items) keys) ws) ((words_test ws key).0 is) (here ws (map (λ v. v.items) keys))), λ _. refl)
    among rest false other = ((λ e. there key.items (map (λ v. v.items) keys) ws (rest.0 e)), λ h. found rest h other)

among_words : (r : TypeRef) (rs : List TypeRef) → Contains (map words (map reference_view rs)) (words (reference_view r)) → Contains (map reference_view rs) (reference_view r)
among_words r [] h = absurd (nothing_there (words (reference_view r)) h)
among_words r (s ∷ rs) h = elim (first_or_rest (words (reference_view s)) (map words (map reference_view rs)) (words (reference_view r)) h) [
  | inl e ↦ subst (λ t. Contains (t ∷ map reference_view rs) (reference_view r)) (same_type r s (sym e)) (here (reference_view r) (map reference_view rs))
  | inr rest ↦ there (reference_view s) (map reference_view rs) (reference_view r) (among_words r rs rest)
]

words_there : (ts : List Term) (t : Term) → Contains ts t → Contains (map words ts) (words t)
words_there [] t h = absurd (nothing_there t h)
words_there (u ∷ ts) t h = elim (first_or_rest u ts t h) [
  | inl e ↦ subst (λ x. Contains (words x ∷ map words ts) (words t)) (sym e) (here (words t) (map words ts))
  | inr rest ↦ there (words u) (map words ts) (words t) (words_there ts t rest)
]

module _ (keys : List (Vec ℕ)) (rs : List TypeRef) (same : map (λ v. v.items) keys ≡ map words (map reference_view rs)) where
  pub known : (r : TypeRef) → list_any (same_words (words (reference_view r))) keys ≡ true → Contains (map reference_view rs) (reference_view r)
  known r e = among_words r rs (subst (λ l. Contains l (words (reference_view r))) same ((among_keys (words (reference_view r)) keys).0 e))

  pub unknown : (r : TypeRef) → list_any (same_words (words (reference_view r))) keys ≡ false → Contains (map reference_view rs) (reference_view r) → ⊥
  unknown r e h = absurd (true≢false (sym ((among_keys (words (reference_view r)) keys).1 (subst (λ l. Contains l (words (reference_view r))) (sym same) (words_there (map reference_view rs) (reference_view r) h))) ∙ e))

  pub place_found : (r : TypeRef) → Vec ℕ → (i : ℕ) → position (same_words (words (reference_view r))) keys ≡ Some i → slice_get (map reference_view rs) i ≡ Some (reference_view r)
  place_found r d i at =
      let held = position-Some (same_words (words (reference_view r))) keys i d at in
      let key : Vec ℕ = get_or keys i d in
      let s : TypeRef = get_or rs i r in
      let sought : words (reference_view r) ≡ key.items = (words_test (words (reference_view r)) key).0 held.1 in
      let long : length keys ≡ length rs = sym (length-map keys (λ (v : Vec ℕ). v.items)) ∙ ap length same ∙ length-map (map reference_view rs) words ∙ length-map rs reference_view in
      let key_at : slice_get (map (λ (v : Vec ℕ). v.items) keys) i ≡ Some key.items = slice_get-map (λ (v : Vec ℕ). v.items) keys i ∙ ap (option_map (λ (v : Vec ℕ). v.items)) (slice_get-get_or keys i d held.0) in
      let type_at : slice_get (map reference_view rs) i ≡ Some (reference_view s) = slice_get-map reference_view rs i ∙ ap (option_map reference_view) (slice_get-get_or rs i r (subst (λ n. i < n) long held.0)) in
      let words_at : slice_get (map words (map reference_view rs)) i ≡ Some (words (reference_view s)) = slice_get-map words (map reference_view rs) i ∙ ap (option_map words) type_at in
      let stored : words (reference_view s) ≡ key.items = ap (λ o. unwrap_or o key.items) (sym words_at ∙ ap (λ l. slice_get l i) (sym same) ∙ key_at) in
      type_at ∙ ap (λ t. Some t) (same_type s r (stored ∙ sym sought))
