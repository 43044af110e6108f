-- Lists: an element more, and what holds of one of the elements or of each.
use Rattle.std.proofs.Common.{◌≡◌, ◌⊎◌, ◌<◌, ◌+◌, ℕ, zero, suc, List, [], ◌∷◌, ◌++◌, Some, inl, inr, refl, sym, subst, ◌∙◌, ap, length, get_or, take, arith}
use Rattle.std.specs.Prelude.{◌↔◌, flat_map, slice_get}
use Rattle.std.specs.List.{Contains, Any, AllByRecursion}
use Rattle.std.proofs.lemmas.List.{take_more, append-nil}
use Rattle.std.proofs.lemmas.Grind.{flat_map-append}
use Rattle.std.proofs.lemmas.List.Elements.{All-from_recursion, All-contains, Contains-push_cases, Contains-append_left}
use Rattle.std.proofs.lemmas.List.Quantifiers.{Any-push}
use Rattle.std.proofs.lemmas.Option.{slice_get_within, get_or_from_slice_get, none-some}

module _ {X : Type 0} (xs : List X) (i : ℕ) (x : X) (lt : i < length xs) (is : x ≡ get_or xs i x) where
  pub take_item : take (i + 1) xs ≡ take i xs ++ x ∷ []
  take_item = take_more xs i x lt ∙ ap (λ y. take i xs ++ y ∷ []) (sym is)

  pub flat_take : {Y : Type 0} (g : X → List Y) → flat_map g (take (i + 1) xs) ≡ flat_map g (take i xs) ++ g x
  flat_take g = ap (flat_map g) take_item ∙ flat_map-append g (take i xs) (x ∷ []) ∙ ap (λ l. flat_map g (take i xs) ++ l) (append-nil (g x))

  all_append : (P : X → Type 0) (ys : List X) → AllByRecursion P ys → P x → AllByRecursion P (ys ++ x ∷ [])
  all_append P [] h p = (p, tt)
  all_append P (y ∷ ys) h p = (h.0, all_append P ys h.1 p)

  pub all_take : (P : X → Type 0) → AllByRecursion P (take i xs) → P x → AllByRecursion P (take (i + 1) xs)
  all_take P h p = subst (AllByRecursion P) (sym take_item) (all_append P (take i xs) h p)

module _ {X : Type 0} where
  pub get_left : (xs ys : List X) (n : ℕ) (x : X) → slice_get xs n ≡ Some x → slice_get (xs ++ ys) n ≡ Some x
  get_left [] ys n x e = absurd (none-some x e)
  get_left (y ∷ xs) ys zero x e = e
  get_left (y ∷ xs) ys (suc n) x e = get_left xs ys n x e

  pub get_right : (xs ys : List X) (n m : ℕ) → m ≡ length xs + n → slice_get (xs ++ ys) m ≡ slice_get ys n
  get_right [] ys n m e = let same : m ≡ n = omega arith in ap (slice_get ys) same
  get_right (x ∷ xs) ys n zero e = let no : ⊥ = omega arith in absurd no
  get_right (x ∷ xs) ys n (suc m) e = let less : m ≡ length xs + n = omega arith in get_right xs ys n m less

  pub get_either : (xs ys : List X) (n : ℕ) (x : X) → slice_get (xs ++ ys) n ≡ Some x → (slice_get xs n ≡ Some x) ⊎ ((j : ℕ) × (n ≡ length xs + j) × (slice_get ys j ≡ Some x))
  get_either [] ys n x e = let same : n ≡ 0 + n = omega arith in inr (n, same, e)
  get_either (y ∷ xs) ys zero x e = inl e
  get_either (y ∷ xs) ys (suc n) x e = one_on (get_either xs ys n x e)
    where
      one_on : (slice_get xs n ≡ Some x) ⊎ ((j : ℕ) × (n ≡ length xs + j) × (slice_get ys j ≡ Some x)) → (slice_get xs n ≡ Some x) ⊎ ((j : ℕ) × (suc n ≡ suc (length xs) + j) × (slice_get ys j ≡ Some x))
      one_on (inl h) = inl h
      one_on (inr (j, is, h)) = let same : suc n ≡ suc (length xs) + j = omega (arith, is) in inr (j, same, h)

  pub get_there : (xs : List X) (i : ℕ) → i < length xs → (x : X) × (slice_get xs i ≡ Some x)
  get_there [] i lt = let no : ⊥ = omega (arith, lt) in absurd no
  get_there (x ∷ xs) zero lt = (x, refl)
  get_there (x ∷ xs) (suc i) lt = let less : i < length xs = omega (arith, lt) in get_there xs i less

all_read : {X : Type 0} (P : X → Type 0) (xs : List X) (i : ℕ) (d : X) → AllByRecursion P xs → i < length xs → P (get_or xs i d)
all_read P [] i d h lt = absurd (omega (arith, lt))
all_read P (x ∷ xs) zero d h lt = h.0
all_read P (x ∷ xs) (suc i) d h lt = all_read P xs i d h.1 (omega (arith, lt))

pub all_get : {X : Type 0} (P : X → Type 0) (xs : List X) (i : ℕ) (x : X) → AllByRecursion P xs → slice_get xs i ≡ Some x → P x
all_get P xs i x h e = subst P (get_or_from_slice_get xs i x x e) (all_read P xs i x h (slice_get_within xs i x e))

-- what holds of one of the elements
module _ {X : Type 0} where
  pub contains_at : (xs : List X) (k : ℕ) (x : X) → slice_get xs k ≡ Some x → Contains xs x
  contains_at xs k x is = (k, slice_get_within xs k x is, get_or_from_slice_get xs k x x is)

  pub all_at : (P : X → Type 0) (xs : List X) (x : X) → AllByRecursion P xs → Contains xs x → P x
  all_at P xs x h m = All-contains P xs x (All-from_recursion P xs h) m

  -- an element of which it holds
  pub record Picked (P : X → Type 0) (xs : List X) : Type 0 where
    pub item : X
    pub among : Contains xs item
    pub holds : P item

  pub pick : (P : X → Type 0) (xs : List X) → Any P xs → Picked P xs
  pick P xs (k, x, lt, is, p) = record { item = x; among = (k, lt, is); holds = p }

  pub any_of : (P : X → Type 0) (xs : List X) (x : X) → Contains xs x → P x → Any P xs
  any_of P xs x m p = (m.0, x, m.1, m.2, p)

  pub any_none : (P : X → Type 0) → Any P [] → ⊥
  any_none P (k, x, lt, is, p) = absurd (omega (arith, lt))

  any_last : (P : X → Type 0) (xs : List X) (y : X) → Any P (xs ++ y ∷ []) ↔ (Any P xs ⊎ P y)
  any_last P xs y = (there, back)
    where
      there : Any P (xs ++ y ∷ []) → Any P xs ⊎ P y
      there a =
          let r = pick P (xs ++ y ∷ []) a in
          elim (Contains-push_cases xs y r.item r.among) as (λ _. Any P xs ⊎ P y) [
            | inl m ↦ inl (any_of P xs r.item m r.holds)
            | inr is ↦ inr (subst P (sym is) r.holds)
          ]

      back : Any P xs ⊎ P y → Any P (xs ++ y ∷ [])
      back (inl a) = let r = pick P xs a in any_of P (xs ++ y ∷ []) r.item (Contains-append_left xs (y ∷ []) r.item r.among) r.holds
      back (inr p) = Any-push P xs y p

  -- it holds of one of an element more
  pub any_more : (P : X → Type 0) (xs : List X) (i : ℕ) (x : X) → i < length xs → x ≡ get_or xs i x → Any P (take (i + 1) xs) ↔ (Any P (take i xs) ⊎ P x)
  any_more P xs i x lt is = subst (λ l. Any P l ↔ (Any P (take i xs) ⊎ P x)) (sym (take_item xs i x lt is)) (any_last P (take i xs) x)

-- what holds of one part more
pub all_more : (Before Now Part Last All : Type 0) → Before ↔ Part → Now ↔ (Before ⊎ Last) → All ↔ (Part ⊎ Last) → Now ↔ All
all_more Before Now Part Last All h k m = ((λ n. m.1 (there (k.0 n))), (λ a. k.1 (back (m.0 a))))
  where
    there : Before ⊎ Last → Part ⊎ Last
    there (inl b) = inl (h.0 b)
    there (inr l) = inr l

    back : Part ⊎ Last → Before ⊎ Last
    back (inl p) = inl (h.1 p)
    back (inr l) = inr l
