-- What is left of elements.
use Rattle.std.proofs.Common.{inl, inr, ◌≡◌, ℕ, zero, suc, ◌+◌, ◌*◌, ◌^◌, ◌<◌, ◌≤◌, Bool, IsTrue, List, [], ◌∷◌, ◌++◌, length, map, drop, get_or, refl, sym, ap, subst, ◌∙◌, arith, drop-cons, mul-suc}
use Rattle.std.proofs.lemmas.List.{drop_all}
use Rattle.std.proofs.Math.Nat.{mul-le-mul_left}
use Rattle.fidl_wire.specs.declared.value.Value.{Value as Tree}
use Rattle.std.specs.Int.{to_le_bytes, w64}
use Rattle.fidl_wire.specs.Value.{Value, Values, absent, list, values_of, count}
use Rattle.fidl_wire.specs.Views.{value_view}
use Rattle.fidl_wire.specs.Term.{Term, resolve}
use Rattle.fidl_wire.specs.Term as ty
use Rattle.fidl_wire.specs.Figure.{Declarations, IsLaidOut, size_of}
use Rattle.fidl_wire.specs.Typed.{IsTyped, AllTyped}
use Rattle.fidl_wire.specs.Encoding.{counted, elements, present}
use Rattle.fidl_wire.proofs.Sizes.{length-inline, length-elements}
use Rattle.fidl_encode.specs.declared.fault.EncodeFault.{EncodeFault}
use Rattle.fidl_encode.specs.declared.fault.EncodeFault.TheVariants.{OverBound}
use Rattle.fidl_encode.specs.Broken.{Breaks}
use Rattle.fidl_encode.specs.Writing.{Written, IsWithin}
use Rattle.fidl_encode.specs.Parts.{Part, value_part, elements_part, IsWritten, IsRefused}
use Rattle.fidl_encode.proofs.Ending.{Alike, Points, written_zeros}
use Rattle.fidl_encode.proofs.Leaving.{Leaves, leaves_all, leaves_rest, leaves_none}

-- from the k-th on: the k-th, and the rest
pub drop_next : {A : Type 0} (xs : List A) (k : ℕ) (d : A) → k < length xs → drop k xs ≡ get_or xs k d ∷ drop (k + 1) xs
drop_next xs k d lt = let e : suc k ≡ k + 1 = omega arith in drop-cons xs k d lt ∙ ap (λ n. get_or xs k d ∷ drop n xs) e

-- the k-th of n of one size lies within them
pub product_within : (size n k : ℕ) → k < n → k * size + size ≤ size * n
product_within size (suc n) k lt =
    let more : size * suc n ≡ size * n + size = mul-suc size n in
    let less : size * k ≤ size * n = mul-le-mul_left size (omega (arith, lt)) in
    let turn : k * size ≡ size * k = omega arith in
    omega (arith, more, less, turn)
product_within size zero k lt = absurd (omega (arith, lt))

pub count_is : (vs : List Tree) → count (values_of (map value_view vs)) ≡ length vs
count_is [] = refl
count_is (v ∷ vs) = ap (λ n. suc n) (count_is vs)

-- the values that trees stand for
abbrev pub views : List Tree → Values
views vs = values_of (map value_view vs)

module _ (ds : Declarations) (t : Term) (size : ℕ) (vs : List Tree) (depth at : ℕ) (old : Written) where
  abbrev whole : Part
  whole = elements_part ds t (views vs)

  -- the elements from the k-th on are left
  pub record IsLeft (k : ℕ) (now : Written) : Type 0 where
    pub left : Leaves whole (elements_part ds t (views (drop k vs))) depth at (at + k * size) old now
    pub within : IsWithin now
    pub longer : length old.bytes ≤ length now.bytes

  pub left_all : IsWithin old → IsLeft 0 old
  left_all h =
      let e : at ≡ at + 0 * size = omega arith in
      record { left = subst (λ p. Leaves whole whole depth at p old old) e (leaves_all whole depth at old); within = h; longer = omega arith }

  module _ (laid : IsLaidOut ds) (sized : size_of ds t ≡ size) (k : ℕ) (v : Tree) (now : Written) (lt : k < length vs) (is : get_or vs k v ≡ v) (h : IsLeft k now) where
    here : drop k vs ≡ v ∷ drop (k + 1) vs
    here = drop_next vs k v lt ∙ ap (λ x. x ∷ drop (k + 1) vs) is

    both_left : Leaves whole (elements_part ds t (views (v ∷ drop (k + 1) vs))) depth at (at + k * size) old now
    both_left = subst (λ us. Leaves whole (elements_part ds t (views us)) depth at (at + k * size) old now) here h.left

    pub left_next : (next : Written) → IsWritten (value_part ds t (value_view v)) depth (at + k * size) now next → IsLeft (k + 1) next
    left_next next wrote =
        let long = length-inline ds laid t (value_view v) wrote.typed ∙ sized in
        let step = leaves_rest whole depth at (at + k * size) old now (value_part ds t (value_view v)) (elements_part ds t (views (drop (k + 1) vs))) next both_left wrote in
        let place = further at k size _ long in
        let more = wrote.adds.longer in
        let before = h.longer in
        record {
          left = subst (λ p. Leaves whole (elements_part ds t (views (drop (k + 1) vs))) depth at p old next) place step;
          within = wrote.within;
          longer = omega (arith, more, before);
        }
      where
        further : (at k size n : ℕ) → n ≡ size → at + k * size + n ≡ at + (k + 1) * size
        further at k size n e = omega (arith, e)

    pub left_refused : (f : EncodeFault) → IsRefused (value_part ds t (value_view v)) depth now f → IsRefused whole depth old f
    left_refused f r = leaves_none whole depth at (at + k * size) old now (value_part ds t (value_view v)) (elements_part ds t (views (drop (k + 1) vs))) both_left f r

  pub left_none : (k : ℕ) (now : Written) → length vs ≤ k → IsLeft k now → IsWritten whole depth at old now
  left_none k now le h =
      h.left.done now
      (subst (λ us. IsWritten (elements_part ds t (views us)) depth (at + k * size) now now) (sym (drop_all k vs le)) (written_zeros 0 depth (at + k * size) now h.within))

pub count-values_of : (vs : List Value) → count (values_of vs) ≡ length vs
count-values_of [] = refl
count-values_of (v ∷ vs) = ap (λ n. suc n) (count-values_of vs)

-- a vector is what points to its elements
pub points_elements : (ds : Declarations) → IsLaidOut ds → (optional : Bool) (bound : ℕ) (t : Term) (vs : List Value) (size : ℕ) → size_of ds (resolve ds.terms t) ≡ size
    → Points (to_le_bytes w64 (length vs) ++ present) (size * length vs) (elements_part ds (resolve ds.terms t) (values_of vs)) (value_part ds (ty.vector optional bound t) (list (values_of vs)))
points_elements ds laid optional bound t vs size sized =
    record {
      from = λ h. h.1;
      breaks = λ f b. inr b;
      depth = refl;
      encoding = ap (λ n. counted n (elements ds (resolve ds.terms t) (values_of vs))) (count-values_of vs);
      sized = λ h. length-elements ds laid (resolve ds.terms t) (values_of vs) h ∙ ap (λ n. n * count (values_of vs)) sized ∙ ap (λ n. size * n) (count-values_of vs);
    }

-- a vector over its bound
pub over_bound : (ds : Declarations) (optional : Bool) (bound : ℕ) (t : Term) (vs : List Value) → bound < length vs → Breaks ds (ty.vector optional bound t) (list (values_of vs)) OverBound
over_bound ds optional bound t vs more = inl (omega (arith, more, count-values_of vs))

pub bounded : (ds : Declarations) (optional : Bool) (bound : ℕ) (t : Term) (vs : List Value) → length vs ≤ bound → AllTyped ds (resolve ds.terms t) (values_of vs) → IsTyped ds (ty.vector optional bound t) (list (values_of vs))
bounded ds optional bound t vs le h = (omega (arith, le, count-values_of vs), h)

-- an array is its elements
pub array_alike : (ds : Declarations) (t : Term) (n : ℕ) (vs : List Value) → length vs ≡ n → Alike (elements_part ds (resolve ds.terms t) (values_of vs)) (value_part ds (ty.array t n) (list (values_of vs)))
array_alike ds t n vs is = record { to = λ h. (count-values_of vs ∙ is, h); from = λ h. h.1; breaks = λ f b. inr b; depth = refl; encoding = refl }

-- what is no list is no vector and no array
pub no_vector : (ds : Declarations) (optional : Bool) (bound : ℕ) (t : Term) (v : Value) → ((vs : Values) → v ≡ list vs → ⊥) → (IsTrue optional → v ≡ absent → ⊥) → IsTyped ds (ty.vector optional bound t) v → ⊥
no_vector ds optional bound t absent none there h = there h refl
no_vector ds optional bound t (list vs) none there h = none vs refl
no_vector ds optional bound t _ none there h = h

pub no_array : (ds : Declarations) (t : Term) (n : ℕ) (v : Value) → ((vs : Values) → v ≡ list vs → ⊥) → IsTyped ds (ty.array t n) v → ⊥
no_array ds t n absent none h = h
no_array ds t n (list vs) none h = none vs refl
no_array ds t n _ none h = h

-- sizes and counts of 32 bits
pub product_small : (a b : ℕ) → a ≤ 65535 → b < 2 ^ 32 → a * b < 2 ^ 64
product_small a b small few =
    let one : a * b ≤ a * 4294967296 = mul-le-mul_left a (omega (arith, few)) in
    omega (arith, one, small)

pub length-views : (vs : List Tree) → length (map value_view vs) ≡ length vs
length-views [] = refl
length-views (v ∷ vs) = ap (λ n. suc n) (length-views vs)

pub other_count : (ds : Declarations) (t : Term) (n : ℕ) (vs : List Value) → (length vs ≡ n → ⊥) → IsTyped ds (ty.array t n) (list (values_of vs)) → ⊥
other_count ds t n vs other h = other (sym (count-values_of vs) ∙ h.0)
