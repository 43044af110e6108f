-- Elements of lists.
use Rattle.std.proofs.Common.{◌≡◌, ℕ, zero, suc, ◌+◌, ◌<◌, List, [], ◌∷◌, ◌++◌, length, get_or, take, refl, subst, arith}
use Rattle.std.specs.List.{Contains, AllByRecursion}

-- an element of a list is one of a longer list
pub among_more : {X : Type 0} (x y : X) (xs : List X) → Contains xs y → Contains (x ∷ xs) y
among_more x y xs (k, within, is) = (suc k, omega (arith, within), is)

pub among_first : {X : Type 0} (x : X) (xs : List X) → Contains (x ∷ xs) x
among_first x xs = (0, omega arith, refl)

pub among_front : {X : Type 0} (xs ys : List X) (y : X) → Contains xs y → Contains (xs ++ ys) y
among_front [] ys y (k, within, is) = absurd (omega (arith, within))
among_front (x ∷ xs) ys y (zero, within, is) = (0, omega arith, is)
among_front (x ∷ xs) ys y (suc k, within, is) = among_more x y (xs ++ ys) (among_front xs ys y (k, omega (arith, within), is))

pub among_back : {X : Type 0} (xs ys : List X) (y : X) → Contains ys y → Contains (xs ++ ys) y
among_back [] ys y h = h
among_back (x ∷ xs) ys y h = among_more x y (xs ++ ys) (among_back xs ys y h)

-- what holds of all elements of two lists holds of all of both
pub all_append : {X : Type 0} (P : X → Type 0) (xs ys : List X) → AllByRecursion P xs → AllByRecursion P ys → AllByRecursion P (xs ++ ys)
all_append P [] ys h k = k
all_append P (x ∷ xs) ys h k = (h.0, all_append P xs ys h.1 k)

-- what holds of all holds of each
pub all_at : {X : Type 0} (P : X → Type 0) (xs : List X) (i : ℕ) (d : X) → AllByRecursion P xs → i < length xs → P (get_or xs i d)
all_at P [] i d h within = absurd (omega (arith, within))
all_at P (x ∷ xs) zero d h within = h.0
all_at P (x ∷ xs) (suc i) d h within = all_at P xs i d h.1 (omega (arith, within))

pub all_of : {X : Type 0} (P : X → Type 0) (xs : List X) → ((i : ℕ) (d : X) → i < length xs → P (get_or xs i d)) → AllByRecursion P xs
all_of P [] h = tt
all_of P (x ∷ xs) h = (h 0 x (omega arith), all_of P xs (λ i d within. h (suc i) d (omega (arith, within))))

pub all_front : {X : Type 0} (P : X → Type 0) (xs ys : List X) → AllByRecursion P (xs ++ ys) → AllByRecursion P xs
all_front P [] ys h = tt
all_front P (x ∷ xs) ys h = (h.0, all_front P xs ys h.1)

pub all_back : {X : Type 0} (P : X → Type 0) (xs ys : List X) → AllByRecursion P (xs ++ ys) → AllByRecursion P ys
all_back P [] ys h = h
all_back P (x ∷ xs) ys h = all_back P xs ys h.1

all_suc : {X : Type 0} (P : X → Type 0) (xs : List X) (i : ℕ) (d : X) → i < length xs → AllByRecursion P (take i xs) → P (get_or xs i d) → AllByRecursion P (take (suc i) xs)
all_suc P [] i d within h p = absurd (omega (arith, within))
all_suc P (x ∷ xs) zero d within h p = (p, tt)
all_suc P (x ∷ xs) (suc i) d within h p = (h.0, all_suc P xs i d (omega (arith, within)) h.1 p)

-- what holds of some, and of the next, holds of one more
pub all_more : {X : Type 0} (P : X → Type 0) (xs : List X) (i : ℕ) (d : X) → i < length xs → AllByRecursion P (take i xs) → P (get_or xs i d) → AllByRecursion P (take (i + 1) xs)
all_more P xs i d within h p =
    let one_more : suc i ≡ i + 1 = omega arith in
    subst (λ n. AllByRecursion P (take n xs)) one_more (all_suc P xs i d within h p)
