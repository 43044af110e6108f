-- Two lists that go together, one place after another.
use Rattle.std.proofs.Common.{◌≡◌, ℕ, zero, suc, subst, ◌+◌, ◌<◌, List, [], ◌∷◌, ◌++◌, length, map, take, get_or, refl, arith}
use Rattle.std.specs.Prelude.{Some, slice_get}
use Rattle.std.specs.List.{AllZip}

-- what stands at a place of what a function makes of a list
pub made_at : {A B : Type 0} (f : A → B) (xs : List A) (i : ℕ) (d : A) → i < length xs → slice_get (map f xs) i ≡ Some (f (get_or xs i d))
made_at f [] i d l = absurd (omega (arith, l))
made_at f (x ∷ xs) zero d l = refl
made_at f (x ∷ xs) (suc i) d l = made_at f xs i d (omega (arith, l))

-- one place more goes together
one_more : {A B : Type 0} (R : A → B → Type 0) (xs : List A) (ys : List B) (i : ℕ) (x : A) (y : B) → AllZip R (take i xs) ys → slice_get xs i ≡ Some x → R x y → AllZip R (take (suc i) xs) (ys ++ y ∷ [])
one_more R [] ys zero x y h is r = cc
one_more R [] ys (suc i) x y h is r = cc
one_more R (a ∷ xs) [] zero x y h is r = let same : a ≡ x = cc in rw same (r, tt)
one_more R (a ∷ xs) (b ∷ ys) zero x y h is r = absurd h
one_more R (a ∷ xs) [] (suc i) x y h is r = absurd h
one_more R (a ∷ xs) (b ∷ ys) (suc i) x y h is r = (h.0, one_more R xs ys i x y h.1 is r)

pub next_more : {A B : Type 0} (R : A → B → Type 0) (xs : List A) (ys : List B) (i : ℕ) (x : A) (y : B) → AllZip R (take i xs) ys → slice_get xs i ≡ Some x → R x y → AllZip R (take (i + 1) xs) (ys ++ y ∷ [])
next_more R xs ys i x y h is r =
    let next : suc i ≡ i + 1 = omega arith in
    subst (λ n. AllZip R (take n xs) (ys ++ y ∷ [])) next (one_more R xs ys i x y h is r)
