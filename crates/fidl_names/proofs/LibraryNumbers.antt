-- Names with numbers, and what holds of one of the elements of a list.
use Rattle.std.proofs.Common.{◌≡◌, ◌<◌, ◌+◌, ℕ, zero, suc, List, [], ◌∷◌, ◌++◌, Some, inl, inr, refl, sym, subst, ◌∙◌, ap, length, get_or, map, arith}
use Rattle.std.specs.Prelude.{slice_get}
use Rattle.std.specs.List.{Contains}
use Rattle.std.proofs.lemmas.List.{map-append}
use Rattle.std.proofs.lemmas.Option.{slice_get_within, some_pair_parts}
use Rattle.fidl_named.specs.Names.{IsOneOf, AreDistinct}
use Rattle.fidl_named.specs.Imports.{IsEntry}
use Rattle.fidl_named.specs.NameMaps.{names_of}
use Rattle.fidl_names.specs.ImportCycles.{AreNumbered}
use Rattle.fidl_names.proofs.Adding.{distinct_more}
use Rattle.fidl_named.proofs.FullNames.{entry_both}

module _ {X : Type 0} where
  front_at : (xs ys : List X) (k : ℕ) (x : X) → slice_get xs k ≡ Some x → slice_get (xs ++ ys) k ≡ Some x
  front_at [] ys k x is = absurd (cc)
  front_at (z ∷ xs) ys zero x is = is
  front_at (z ∷ xs) ys (suc k) x is = front_at xs ys k x is

  last_at : (xs : List X) (x : X) → slice_get (xs ++ x ∷ []) (length xs) ≡ Some x
  last_at [] x = refl
  last_at (z ∷ xs) x = last_at xs x

  one_of_at : (f : X → List ℕ) (xs : List X) (k : ℕ) (d : X) → k < length xs → IsOneOf (map f xs) (f (get_or xs k d))
  one_of_at f [] k d lt = absurd (omega (arith, lt))
  one_of_at f (x ∷ xs) zero d lt = inl refl
  one_of_at f (x ∷ xs) (suc k) d lt = inr (one_of_at f xs k d (omega (arith, lt)))

  pub one_of_them : (f : X → List ℕ) (xs : List X) (x : X) → Contains xs x → IsOneOf (map f xs) (f x)
  one_of_them f xs x m = subst (λ y. IsOneOf (map f xs) (f y)) m.2 (one_of_at f xs m.0 x m.1)

module _ (es : List (List ℕ × ℕ)) where
  pub numbered_more : (name : List ℕ) (number : ℕ) → number ≡ length es → (IsOneOf (names_of es) name → ⊥) → AreNumbered es → AreNumbered (es ++ (name, number) ∷ [])
  numbered_more name number is fresh h = record {
    names = subst AreDistinct (sym (map-append (λ (e : List ℕ × ℕ). e.0) es ((name, number) ∷ []))) (distinct_more (names_of es) name h.names fresh);
    places = places;
  }
    where
      at_last : (n : List ℕ) (k : ℕ) → IsEntry ((name, number) ∷ []) n k → slice_get (es ++ (name, number) ∷ []) k ≡ Some (n, k)
      at_last n k (inl j) =
          let here = last_at es (name, number) in
          subst (λ m. slice_get (es ++ (name, number) ∷ []) m ≡ Some (n, k)) (sym is ∙ j.1) (here ∙ ap (λ (x : List ℕ). Some (x, number)) j.0 ∙ ap (λ (x : ℕ). Some (n, x)) j.1)
      at_last n k (inr j) = absurd j

      places : (n : List ℕ) (k : ℕ) → IsEntry (es ++ (name, number) ∷ []) n k → slice_get (es ++ (name, number) ∷ []) k ≡ Some (n, k)
      places n k m = elim (entry_both es ((name, number) ∷ []) n k m) as (λ _. slice_get (es ++ (name, number) ∷ []) k ≡ Some (n, k)) [
        | inl old ↦ front_at es ((name, number) ∷ []) k (n, k) (h.places n k old)
        | inr last ↦ at_last n k last
      ]

  -- a number is of one name
  pub one_name : AreNumbered es → (x y : List ℕ) (n : ℕ) → IsEntry es x n → IsEntry es y n → x ≡ y
  one_name h x y n hx hy = (some_pair_parts x y n n (sym (h.places x n hx) ∙ h.places y n hy)).0

  pub number_within : AreNumbered es → (x : List ℕ) (n : ℕ) → IsEntry es x n → n < length es
  number_within h x n hx = slice_get_within es n (x, n) (h.places x n hx)

-- the number of a name
pub record NumberOf (es : List (List ℕ × ℕ)) (name : List ℕ) : Type 0 where
  pub number : ℕ
  pub stands : IsEntry es name number

pub number_of : (es : List (List ℕ × ℕ)) (name : List ℕ) → IsOneOf (names_of es) name → NumberOf es name
number_of [] name h = absurd h
number_of (e ∷ es) name (inl is) = record { number = e.1; stands = inl (is, refl) }
number_of (e ∷ es) name (inr h) = let r = number_of es name h in record { number = r.number; stands = inr r.stands }
