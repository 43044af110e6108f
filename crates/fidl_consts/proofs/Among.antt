-- What stands in lists.
use Rattle.std.proofs.Common.{◌≡◌, ◌⊎◌, zero, suc, List, [], ◌∷◌, map, Bool, true, false, cond, refl, sym, subst, ap, ◌∙◌, inl, inr, arith}
use Rattle.std.specs.Prelude.{flat_map}
use Rattle.std.specs.List.{Contains, filter}
use Rattle.std.proofs.lemmas.List.Elements.{Contains-append_left, Contains-append_right, Contains-append_cases}
use Rattle.std.proofs.Math.ListN.{get_or-map, length-map}
use Rattle.fidl_tree.specs.Syntax.{Path, Value}
use Rattle.fidl_named.specs.declared.meaning.Wanted.TheVariants as wanted
use Rattle.fidl_named.specs.Places.{value_paths}
use Rattle.fidl_consts.specs.Dependencies.{value_uses}

module _ {X : Type 0} where
  -- no list without elements has one
  pub among_none : (x : X) → Contains [] x → ⊥
  among_none x h = let within = h.1 in absurd (omega arith)

  pub among_first : (x : X) (xs : List X) → Contains (x ∷ xs) x
  among_first x xs = (zero, omega arith, refl)

  pub among_rest : (y x : X) (xs : List X) → Contains xs x → Contains (y ∷ xs) x
  among_rest y x xs h = Contains-append_right (y ∷ []) xs x h

  -- the first, or one of the rest
  pub among_cases : (y x : X) (xs : List X) → Contains (y ∷ xs) x → (y ≡ x) ⊎ Contains xs x
  among_cases y x xs (zero, within, is) = inl is
  among_cases y x xs (suc k, within, is) = inr (k, omega arith, is)

  -- what passes a test stays
  pub among_passed : (test : X → Bool) (xs : List X) (x : X) → test x ≡ true → Contains xs x → Contains (filter test xs) x
  among_passed test [] x passes h = absurd (among_none x h)
  among_passed test (y ∷ xs) x passes h = elim (among_cases y x xs h) [
    | inl is ↦ subst (λ b. Contains (cond b (y ∷ filter test xs) (filter test xs)) x) (sym (ap test is ∙ passes)) (subst (Contains (y ∷ filter test xs)) is (among_first y (filter test xs)))
    | inr k ↦ stays (test y) (among_passed test xs x passes k)
  ]
    where
      stays : (b : Bool) → Contains (filter test xs) x → Contains (cond b (y ∷ filter test xs) (filter test xs)) x
      stays true k = among_rest y x (filter test xs) k
      stays false k = k

  module _ {Y : Type 0} where
    pub among_map : (g : X → Y) (xs : List X) (x : X) → Contains xs x → Contains (map g xs) (g x)
    among_map g xs x h =
        let within = h.1 in
        (h.0, omega (arith, length-map xs g), get_or-map g xs h.0 x ∙ ap g h.2)

    -- what one element gives, all give
    pub among_flat : (g : X → List Y) (xs : List X) (x : X) (y : Y) → Contains xs x → Contains (g x) y → Contains (flat_map g xs) y
    among_flat g [] x y h k = absurd (among_none x h)
    among_flat g (z ∷ xs) x y h k = elim (among_cases z x xs h) [
      | inl is ↦ Contains-append_left (g z) (flat_map g xs) y (subst (λ w. Contains (g w) y) (sym is) k)
      | inr rest ↦ Contains-append_right (g z) (flat_map g xs) y (among_flat g xs x y rest k)
    ]

-- the names in values are among those that the values depend on
pub among_uses : (vs : List Value) (path : Path) → Contains (flat_map value_paths vs) path → Contains (flat_map value_uses vs) (wanted.Value, path)
among_uses [] path h = absurd (among_none path h)
among_uses (v ∷ vs) path h = elim (Contains-append_cases (value_paths v) (flat_map value_paths vs) path h) [
  | inl k ↦ Contains-append_left (value_uses v) (flat_map value_uses vs) (wanted.Value, path) (among_map (λ (p : Path). (wanted.Value, p)) (value_paths v) path k)
  | inr k ↦ Contains-append_right (value_uses v) (flat_map value_uses vs) (wanted.Value, path) (among_uses vs path k)
]
