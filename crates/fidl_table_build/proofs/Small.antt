-- The types of small listings.
use Rattle.std.proofs.Common.{◌≡◌, ◌∙◌, ℕ, List, [], ◌∷◌, ◌++◌, Some, slice_get, refl, ap, sym, subst, inl, inr}
use Rattle.std.specs.List.{Contains}
use Rattle.fidl_wire.specs.Term.{Term}
use Rattle.fidl_wire.specs.Term as ty
use Rattle.fidl_reachable_types.specs.Reached.{held, IsReached, IsJoined, with_none, with_known, with_new, root, part, AreReached}
use Rattle.fidl_reachable_types.proofs.Members.{here, nothing_there, first_or_rest, distinct_push}
use Rattle.fidl_reachable_types.proofs.Growth.{joined_adds, joined_new}
use Rattle.fidl_reachable_types.proofs.Reaching.{none_distinct}

pub none_reached : (terms : List Term) (t : Term) → IsReached terms [] t → ⊥
none_reached terms t (root i h) = nothing_there i h
none_reached terms u (part t v h k) = none_reached terms t h

-- without roots nothing is reached
pub reach_none : (terms : List Term) → AreReached terms [] []
reach_none terms = record { distinct = none_distinct; sound = λ t h. absurd (nothing_there t h); complete = λ t h. absurd (none_reached terms t h); order = with_none [] }

-- a struct without members reaches itself
abbrev empty_struct : List Term
empty_struct = ty.struct ty.no_fields ∷ []

pub reach_one : AreReached empty_struct (0 ∷ []) (ty.named 0 ∷ [])
reach_one = record {
  distinct = distinct_push [] (ty.named 0) none_distinct (nothing_there (ty.named 0));
  sound = sound;
  complete = complete;
  order = joined_new [] (ty.named 0) (nothing_there (ty.named 0));
}
  where
    sound : (t : Term) → Contains (ty.named 0 ∷ []) t → IsReached empty_struct (0 ∷ []) t
    sound t h = elim (first_or_rest (ty.named 0) [] t h) [
      | inl e ↦ subst (IsReached empty_struct (0 ∷ [])) e (root 0 (here 0 []))
      | inr none ↦ absurd (nothing_there t none)
    ]

    complete : (t : Term) → IsReached empty_struct (0 ∷ []) t → Contains (ty.named 0 ∷ []) t
    complete t (root i h) = elim (first_or_rest 0 [] i h) [
      | inl e ↦ subst (λ (j : ℕ). Contains (ty.named 0 ∷ []) (ty.named j)) e (here (ty.named 0) [])
      | inr rest ↦ absurd (nothing_there i rest)
    ]
    complete u (part t v h k) = elim (first_or_rest (ty.named 0) [] t (complete t h)) [
      | inl e ↦ absurd (nothing_there u (subst (λ (w : Term). Contains (held empty_struct w) u) (sym e) k))
      | inr none ↦ absurd (nothing_there t none)
    ]

-- the first part is the first of the list
pub first_joined : (p : Term) (parts all types : List Term) → all ≡ p ∷ parts → IsJoined [] all types → slice_get types 0 ≡ Some p
first_joined p parts all types e j = from [] all types refl e j
  where
    from : (old all types : List Term) → old ≡ [] → all ≡ p ∷ parts → IsJoined old all types → slice_get types 0 ≡ Some p
    from _ _ _ none e (with_none old) = absurd (cc)
    from _ _ _ none e (with_known old others new t h k) = absurd (nothing_there t (subst (λ (l : List Term). Contains l t) none h))
    from _ _ _ none e (with_new old others new t h k) =
        let same : t ≡ p = cc in
        let a = joined_adds (old ++ t ∷ []) others new k in
        ap (λ (l : List Term). slice_get l 0) (a.is ∙ ap (λ (l : List Term). (l ++ t ∷ []) ++ a.added) none) ∙ ap (λ (u : Term). Some u) same
