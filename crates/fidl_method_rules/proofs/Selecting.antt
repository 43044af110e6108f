-- The first element of a list that passes a test, seen as plain data.
use Rattle.std.proofs.Common.{◌≡◌, ◌∙◌, ℕ, ◌+◌, ◌<◌, ◌≤◌, Bool, true, false, List, [], ◌∷◌, ◌++◌, length, get_or, take, drop, map, if◌then◌else◌, sym, ap, arith}
use Rattle.std.specs.List.{filter}
use Rattle.std.proofs.lemmas.List.{take_all, take-append-drop, drop_more, drop-map, get_or-map, length-map}
use Rattle.std.proofs.lemmas.List.Elements.{filter-append, filter_more}

module _ {X Y : Type 0} (g : X → Y) (p : Y → Bool) (xs : List X) where
  -- none of the first passes
  abbrev pub NoneBefore : ℕ → Type 0
  NoneBefore i = filter p (take i (map g xs)) ≡ []

  pub none_at_all : (i : ℕ) → length xs ≤ i → NoneBefore i → filter p (map g xs) ≡ []
  none_at_all i past none = ap (filter p) (sym (take_all i (map g xs) (omega (arith, length-map xs g)))) ∙ none

  module _ (i : ℕ) (x : X) (lt : i < length xs) (is : x ≡ get_or xs i x) where
    pub seen_within : i < length (map g xs)
    seen_within = omega (arith, lt, length-map xs g)

    pub seen_is : get_or (map g xs) i (g x) ≡ g x
    seen_is = get_or-map g xs i x (g x) lt ∙ ap g (sym is)

    pub none_further : p (g x) ≡ false → NoneBefore i → NoneBefore (i + 1)
    none_further fails none =
        filter_more p (map g xs) i (g x) seen_within
        ∙ ap (λ y. filter p (take i (map g xs)) ++ (if p y then y ∷ [] else [])) seen_is
        ∙ ap (λ (b : Bool). filter p (take i (map g xs)) ++ (if b then g x ∷ [] else [])) fails
        ∙ ap (λ l. l ++ []) none

    pub first_there : p (g x) ≡ true → NoneBefore i → filter p (map g xs) ≡ g x ∷ filter p (map g (drop (i + 1) xs))
    first_there passes none =
        let ys = map g xs in
        let whole : ys ≡ take i ys ++ get_or ys i (g x) ∷ drop (i + 1) ys = sym (take-append-drop i ys) ∙ ap (λ l. take i ys ++ l) (drop_more ys i (g x) seen_within) in
        ap (filter p) (whole ∙ ap (λ y. take i ys ++ y ∷ drop (i + 1) ys) seen_is)
        ∙ filter-append p (take i ys) (g x ∷ drop (i + 1) ys)
        ∙ ap (λ l. l ++ filter p (g x ∷ drop (i + 1) ys)) none
        ∙ ap (λ (b : Bool). if b then g x ∷ filter p (drop (i + 1) ys) else filter p (drop (i + 1) ys)) passes
        ∙ ap (λ l. g x ∷ filter p l) (drop-map g (i + 1) xs)
