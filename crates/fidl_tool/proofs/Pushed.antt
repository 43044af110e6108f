-- Lists that grow while another is walked.
use Rattle.std.proofs.Common.{◌≡◌, ◌+◌, ◌<◌, ◌≤◌, ℕ, zero, suc, List, [], ◌∷◌, ◌++◌, length, take, get_or, map, refl, ap, sym, subst, ◌∙◌, arith}
use Rattle.std.proofs.lemmas.List.{map-append}
use Rattle.std.specs.Prelude.{Some, slice_get}
use Rattle.std.specs.List.{AllZip}

take_suc : {X : Type 0} (xs : List X) (i : ℕ) (x : X) → i < length xs → x ≡ get_or xs i x → take (suc i) xs ≡ take i xs ++ x ∷ []
take_suc [] i x l e = absurd (omega (arith, l))
take_suc (y ∷ ys) zero x l e = ap (λ z. z ∷ []) (sym e)
take_suc (y ∷ ys) (suc i) x l e = ap (λ zs. y ∷ zs) (take_suc ys i x (omega (arith, l)) e)

take_next : {X : Type 0} (xs : List X) (i : ℕ) (x : X) → i < length xs → x ≡ get_or xs i x → take (i + 1) xs ≡ take i xs ++ x ∷ []
take_next xs i x l e = let next : suc i ≡ i + 1 = omega arith in subst (λ n. take n xs ≡ take i xs ++ x ∷ []) next (take_suc xs i x l e)

pub take_all : {X : Type 0} (xs : List X) (i : ℕ) → length xs ≤ i → take i xs ≡ xs
take_all [] zero l = refl
take_all [] (suc i) l = refl
take_all (x ∷ xs) zero l = absurd (omega (arith, l))
take_all (x ∷ xs) (suc i) l = ap (λ ys. x ∷ ys) (take_all xs i (omega (arith, l)))

-- what two functions make of the lists is one still, where they make one thing of what is added
pub map_more : {X Y Z : Type 0} (f : X → Z) (g : Y → Z) (xs : List X) (i : ℕ) (x : X) (ys new : List Y) (y : Y) → i < length xs → x ≡ get_or xs i x
    → new ≡ ys ++ y ∷ [] → g y ≡ f x → map g ys ≡ map f (take i xs) → map g new ≡ map f (take (i + 1) xs)
map_more f g xs i x ys new y l e pushed same so_far =
    ap (map g) pushed ∙ map-append g ys (y ∷ []) ∙ ap (λ zs. zs ++ g y ∷ []) so_far ∙ ap (λ z. map f (take i xs) ++ z ∷ []) same
    ∙ sym (map-append f (take i xs) (x ∷ [])) ∙ ap (map f) (sym (take_next xs i x l e))

pub map_done : {X Y Z : Type 0} (f : X → Z) (g : Y → Z) (xs : List X) (i : ℕ) (ys : List Y) → length xs ≤ i → map g ys ≡ map f (take i xs) → map g ys ≡ map f xs
map_done f g xs i ys l so_far = so_far ∙ ap (map f) (take_all xs i l)

-- two lists that go together go on together
one_more : {A B : Type 0} (R : A → B → Type 0) (xs : List A) (ys : List B) (i : ℕ) (x : A) (y : B) → AllZip R (take i xs) ys → slice_get xs i ≡ Some x → R x y → AllZip R (take (suc i) xs) (ys ++ y ∷ [])
one_more R [] ys zero x y h is r = cc
one_more R [] ys (suc i) x y h is r = cc
one_more R (a ∷ xs) [] zero x y h is r = let same : a ≡ x = cc in rw same (r, tt)
one_more R (a ∷ xs) (b ∷ ys) zero x y h is r = absurd h
one_more R (a ∷ xs) [] (suc i) x y h is r = absurd h
one_more R (a ∷ xs) (b ∷ ys) (suc i) x y h is r = (h.0, one_more R xs ys i x y h.1 is r)

pub zip_more : {A B : Type 0} (R : A → B → Type 0) (xs : List A) (ys : List B) (i : ℕ) (x : A) (y : B) → AllZip R (take i xs) ys → slice_get xs i ≡ Some x → R x y → AllZip R (take (i + 1) xs) (ys ++ y ∷ [])
zip_more R xs ys i x y h is r = let next : suc i ≡ i + 1 = omega arith in subst (λ n. AllZip R (take n xs) (ys ++ y ∷ [])) next (one_more R xs ys i x y h is r)

pub made_at : {A B : Type 0} (f : A → B) (xs : List A) (i : ℕ) (d : A) → i < length xs → slice_get (map f xs) i ≡ Some (f (get_or xs i d))
made_at f [] i d l = absurd (omega (arith, l))
made_at f (x ∷ xs) zero d l = refl
made_at f (x ∷ xs) (suc i) d l = made_at f xs i d (omega (arith, l))

same_at : {X : Type 0} (xs : List X) (i : ℕ) (d e : X) → i < length xs → get_or xs i d ≡ get_or xs i e
same_at [] i d e l = absurd (omega (arith, l))
same_at (x ∷ xs) zero d e l = refl
same_at (x ∷ xs) (suc i) d e l = same_at xs i d e (omega (arith, l))

-- the same where what is walked is copied
pub map_at : {X Y Z : Type 0} (f : X → Z) (g : Y → Z) (xs : List X) (i : ℕ) (d : X) (ys new : List Y) (y : Y) → i < length xs
    → new ≡ ys ++ y ∷ [] → g y ≡ f (get_or xs i d) → map g ys ≡ map f (take i xs) → map g new ≡ map f (take (i + 1) xs)
map_at f g xs i d ys new y l pushed same so_far = map_more f g xs i (get_or xs i d) ys new y l (same_at xs i d _ l) pushed same so_far
