-- What a struct of a bool reaches.
use Rattle.std.proofs.Common.{◌≡◌, ℕ, List, [], ◌∷◌, inl, inr, subst, sym}
use Rattle.std.specs.List.{Contains}
use Rattle.fidl_wire.specs.Term.{Term}
use Rattle.fidl_wire.specs.Term as ty
use Rattle.fidl_reachable_types.specs.Reached.{held, IsReached, root, part, IsJoined, with_new, AreReached, AreDistinct}
use Rattle.fidl_reachable_types.specs.Samples.{holding}
use Rattle.fidl_reachable_types.proofs.Members.{here, there, nothing_there, first_or_rest, distinct_push}
use Rattle.fidl_reachable_types.proofs.Growth.{joined_new, joined_known}
use Rattle.fidl_reachable_types.proofs.OneList.{one_joined}
use Rattle.fidl_reachable_types.proofs.Reaching.{none_distinct}

abbrev terms : List Term
terms = holding ty.bool ∷ []

abbrev pub both : List Term
both = ty.named 0 ∷ ty.bool ∷ []

root_there : (i : ℕ) → Contains (0 ∷ []) i → Contains both (ty.named i)
root_there i h = elim (first_or_rest 0 [] i h) [
  | inl e ↦ subst (λ j. Contains both (ty.named j)) e (here (ty.named 0) (ty.bool ∷ []))
  | inr rest ↦ absurd (nothing_there i rest)
]

held_there : (t u : Term) → Contains both t → Contains (held terms t) u → Contains both u
held_there t u h k = elim (first_or_rest (ty.named 0) (ty.bool ∷ []) t h) [
  | inl e ↦ there (ty.named 0) (ty.bool ∷ []) u (subst (λ v. Contains (held terms v) u) (sym e) k)
  | inr rest ↦ elim (first_or_rest ty.bool [] t rest) [
    | inl e ↦ absurd (nothing_there u (subst (λ v. Contains (held terms v) u) (sym e) k))
    | inr none ↦ absurd (nothing_there t none)
  ]
]

pub complete : (t : Term) → IsReached terms (0 ∷ []) t → Contains both t
complete t (root i h) = root_there i h
complete u (part t v h k) = held_there t u (complete t h) k

sound : (t : Term) → Contains both t → IsReached terms (0 ∷ []) t
sound t h = elim (first_or_rest (ty.named 0) (ty.bool ∷ []) t h) [
  | inl e ↦ subst (IsReached terms (0 ∷ [])) e (root 0 (here 0 []))
  | inr rest ↦ elim (first_or_rest ty.bool [] t rest) [
    | inl e ↦ subst (IsReached terms (0 ∷ [])) e (part (ty.named 0) ty.bool (root 0 (here 0 [])) (here ty.bool []))
    | inr none ↦ absurd (nothing_there t none)
  ]
]

pub other : Contains (ty.named 0 ∷ []) ty.bool → ⊥
other h = elim (first_or_rest (ty.named 0) [] ty.bool h) [ inl e ↦ absurd (cc) | inr none ↦ nothing_there ty.bool none ]

distinct : AreDistinct both
distinct = distinct_push (ty.named 0 ∷ []) ty.bool (distinct_push [] (ty.named 0) none_distinct (nothing_there (ty.named 0))) other

pub both_joined : IsJoined [] both both
both_joined = with_new [] (ty.bool ∷ []) both (ty.named 0) (nothing_there (ty.named 0)) (joined_new (ty.named 0 ∷ []) ty.bool other)

pub both_reached : AreReached terms (0 ∷ []) both
both_reached = record { distinct = distinct; sound = sound; complete = complete; order = both_joined }

-- in another order it does not
pub member_first : AreReached terms (0 ∷ []) (ty.bool ∷ ty.named 0 ∷ []) → ⊥
member_first r = let same : ty.bool ∷ ty.named 0 ∷ [] ≡ both = one_joined [] both (ty.bool ∷ ty.named 0 ∷ []) both r.order both_joined in absurd (cc)

-- a struct of itself
pub itself_reached : AreReached (holding (ty.named 0) ∷ []) (0 ∷ []) (ty.named 0 ∷ [])
itself_reached = record { distinct = distinct_push [] (ty.named 0) none_distinct (nothing_there (ty.named 0)); sound = sound_itself; complete = complete_itself; order = itself_joined }
  where
    itself_joined : IsJoined [] (ty.named 0 ∷ ty.named 0 ∷ []) (ty.named 0 ∷ [])
    itself_joined = with_new [] (ty.named 0 ∷ []) (ty.named 0 ∷ []) (ty.named 0) (nothing_there (ty.named 0)) (joined_known (ty.named 0 ∷ []) (ty.named 0) (here (ty.named 0) []))

    sound_itself : (t : Term) → Contains (ty.named 0 ∷ []) t → IsReached (holding (ty.named 0) ∷ []) (0 ∷ []) t
    sound_itself t h = elim (first_or_rest (ty.named 0) [] t h) [
      | inl e ↦ subst (IsReached (holding (ty.named 0) ∷ []) (0 ∷ [])) e (root 0 (here 0 []))
      | inr none ↦ absurd (nothing_there t none)
    ]

    complete_itself : (t : Term) → IsReached (holding (ty.named 0) ∷ []) (0 ∷ []) t → Contains (ty.named 0 ∷ []) t
    complete_itself t (root i h) = elim (first_or_rest 0 [] i h) [
      | inl e ↦ subst (λ j. Contains (ty.named 0 ∷ []) (ty.named j)) e (here (ty.named 0) [])
      | inr rest ↦ absurd (nothing_there i rest)
    ]
    complete_itself u (part t v h k) = elim (first_or_rest (ty.named 0) [] t (complete_itself t h)) [
      | inl e ↦ subst (λ w. Contains (held (holding (ty.named 0) ∷ []) w) u) (sym e) k
      | inr none ↦ absurd (nothing_there t none)
    ]

pub none_reached : (t : Term) → IsReached terms [] t → ⊥
none_reached t (root i h) = nothing_there i h
none_reached u (part t v h k) = none_reached t h

-- a bool is no definition
pub apart : Contains (ty.bool ∷ []) (ty.named 0) → ⊥
apart h = elim (first_or_rest ty.bool [] (ty.named 0) h) [ inl e ↦ absurd (cc) | inr none ↦ nothing_there (ty.named 0) none ]

-- joined to nothing
pub alone : IsJoined [] (ty.bool ∷ []) (ty.bool ∷ [])
alone = joined_new [] ty.bool (nothing_there ty.bool)
