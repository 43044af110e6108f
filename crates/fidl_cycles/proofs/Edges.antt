-- An edge more in a graph.
use Rattle.std.proofs.Common.{◌≡◌, ◌<◌, ℕ, List, [], ◌∷◌, ◌++◌, inl, inr, refl, sym, ap, subst, ◌∙◌, length, get_or, set, arith, get_or-set_same, get_or-set_other, length-set}
use Rattle.std.specs.Prelude.{◌⊎◌, ◌↔◌}
use Rattle.std.specs.List.{Contains}
use Rattle.std.proofs.lemmas.Option.{get_or_from_slice_get, slice_get-get_or, slice_get_within}
use Rattle.std.proofs.lemmas.List.Elements.{Contains-append_left, Contains-append_right, Contains-append_cases}
use Rattle.fidl_cycles.specs.Cycles.{IsEdge}
use Rattle.fidl_cycles.proofs.Trails.{same_or_not}
use Rattle.std.specs.Prelude.{replicate}
use Rattle.std.proofs.lemmas.List.{get_or-replicate, length-replicate}

module _ (g : List (List ℕ)) (x y : ℕ) where
  pub edge_in : IsEdge g x y → Contains (get_or g x []) y
  edge_in e = subst (λ l. Contains l y) (sym (get_or_from_slice_get g x e.targets [] e.stands)) e.among

  pub edge_of : x < length g → Contains (get_or g x []) y → IsEdge g x y
  edge_of lt h = record { targets = get_or g x []; stands = slice_get-get_or g x [] lt; among = h }

  pub edge_within : IsEdge g x y → x < length g
  edge_within e = slice_get_within g x e.targets e.stands

just_one : (a y : ℕ) → Contains (a ∷ []) y → y ≡ a
just_one a y (i, lt, e) = sym e ∙ ap (λ k. get_or (a ∷ []) k y) (let z : i ≡ 0 = omega (arith, lt) in z)

module _ (g : List (List ℕ)) (from to : ℕ) (lt : from < length g) where
  abbrev row : List ℕ
  row = get_or g from []

  abbrev now : List (List ℕ)
  now = set g from (row ++ to ∷ [])

  here : get_or now from [] ≡ row ++ to ∷ []
  here = get_or-set_same g from (row ++ to ∷ []) [] lt

  pub edge_more : (x y : ℕ) → IsEdge now x y ↔ (IsEdge g x y ⊎ ((x ≡ from) × (y ≡ to)))
  edge_more x y = (there, back)
    where
      at_from : x ≡ from → Contains (row ++ to ∷ []) y → IsEdge g x y ⊎ ((x ≡ from) × (y ≡ to))
      at_from is h = elim (Contains-append_cases row (to ∷ []) y h) as (λ _. IsEdge g x y ⊎ ((x ≡ from) × (y ≡ to))) [
        | inl old ↦ inl (subst (λ a. IsEdge g a y) (sym is) (edge_of g from y lt old))
        | inr last ↦ inr (is, just_one to y last)
      ]

      there : IsEdge now x y → IsEdge g x y ⊎ ((x ≡ from) × (y ≡ to))
      there e = elim (same_or_not x from) as (λ _. IsEdge g x y ⊎ ((x ≡ from) × (y ≡ to))) [
        | inl is ↦ at_from is (subst (λ l. Contains l y) here (edge_in now from y (subst (λ a. IsEdge now a y) is e)))
        | inr other ↦ inl (edge_of g x y (subst (λ n. x < n) (length-set g from (row ++ to ∷ [])) (edge_within now x y e)) (subst (λ l. Contains l y) (get_or-set_other g from x (row ++ to ∷ []) [] other) (edge_in now x y e)))
      ]

      within : x < length g → x < length now
      within h = subst (λ n. x < n) (sym (length-set g from (row ++ to ∷ []))) h

      kept : IsEdge g x y → IsEdge now x y
      kept e = elim (same_or_not x from) as (λ _. IsEdge now x y) [
        | inl is ↦ edge_of now x y (within (edge_within g x y e)) (subst (λ a. Contains (get_or now a []) y) (sym is) (subst (λ l. Contains l y) (sym here) (Contains-append_left row (to ∷ []) y (edge_in g from y (subst (λ a. IsEdge g a y) is e)))))
        | inr other ↦ edge_of now x y (within (edge_within g x y e)) (subst (λ l. Contains l y) (sym (get_or-set_other g from x (row ++ to ∷ []) [] other)) (edge_in g x y e))
      ]

      back : IsEdge g x y ⊎ ((x ≡ from) × (y ≡ to)) → IsEdge now x y
      back (inl e) = kept e
      back (inr h) = subst (λ a. IsEdge now a y) (sym h.0) (subst (IsEdge now from) (sym h.1) (edge_of now from to (subst (λ n. from < n) (sym (length-set g from (row ++ to ∷ []))) lt) (subst (λ l. Contains l to) (sym here) (Contains-append_right row (to ∷ []) to (0, (omega arith), refl)))))

-- points without edges
pub no_edge : (n one other : ℕ) → IsEdge (replicate n []) one other → ⊥
no_edge n one other e =
    let within = slice_get_within (replicate n []) one e.targets e.stands in
    let long = length-replicate {A = List ℕ} n [] in
    let none : e.targets ≡ [] = sym (get_or_from_slice_get (replicate n []) one e.targets [] e.stands) ∙ get_or-replicate n one [] [] (omega (arith, within, long)) in
    let m = subst (λ l. Contains l other) none e.among in
    let lt = m.1 in
    absurd (omega (arith, lt))
