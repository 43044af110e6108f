-- The nearest of names, one name after another.
use Rattle.std.proofs.Common.{◌≡◌, ℕ, ◌+◌, ◌<◌, ◌≤◌, Bor, length, take, map, get_or, List, [], ◌∷◌, ◌++◌, true, false, refl, sym, ap, subst, ◌∙◌, arith}
use Rattle.std.specs.Prelude.{Option, Some, None, Bool, IfSome, IfNone, nat_lt, if◌then◌else◌, All}
use Rattle.std.proofs.lemmas.Bool.{ltb-true, ltb-false}
use Rattle.std.proofs.lemmas.List.Elements.{All-append, All-push, All-cons, All-nil, All-weaker}
use mathlib.Core.List.{append_assoc}
use Rattle.std.proofs.lemmas.List.{take_more, map-append, take_all}
use Rattle.fidl_hints.specs.Nearest.{distance, is_near, IsNear, IsNearest, HasNoNear, IsClose, nearer}
use Rattle.fidl_hints.specs.declared.names.Close.{Close}

abbrev pub IsSoFar : (word : List ℕ) (names : List (List ℕ)) → Option Close → Type 0
IsSoFar word names None = HasNoNear word names
IsSoFar word names (Some c) = (c.distance ≡ distance word c.name.now) × IsNearest word names c.name.now

-- where nothing was near so far, the first name that is
first_near : (word : List ℕ) (names : List (List ℕ)) (c : Close) → HasNoNear word names → IsNear word c.name.now → IsNearest word (names ++ c.name.now ∷ []) c.name.now
first_near word names c none near = record {
  before = names;
  after = [];
  split = refl;
  near = near;
  first = All-weaker (λ name. is_near word name ≡ false) (λ name. IsNear word name → distance word c.name.now < distance word name) (λ n far is. cc) names none;
  least = All-nil (λ name. IsNear word name → distance word c.name.now ≤ distance word name);
}

-- the name that was the nearest stays so before a name that is not nearer
stays : (word : List ℕ) (names : List (List ℕ)) (found name : List ℕ) → IsNearest word names found → (IsNear word name → distance word found ≤ distance word name) → IsNearest word (names ++ name ∷ []) found
stays word names found name h le = record {
  before = h.before;
  after = h.after ++ name ∷ [];
  split = ap (λ (l : List (List ℕ)). l ++ name ∷ []) h.split ∙ append_assoc h.before (found ∷ h.after) (name ∷ []);
  near = h.near;
  first = h.first;
  least = All-push (λ n. IsNear word n → distance word found ≤ distance word n) h.after name h.least le;
}

-- a name that is nearer than that which was the nearest
nearer_one : (word : List ℕ) (names : List (List ℕ)) (found name : List ℕ) → IsNearest word names found → IsNear word name → distance word name < distance word found → IsNearest word (names ++ name ∷ []) name
nearer_one word names found name h near lt = record {
  before = names;
  after = [];
  split = refl;
  near = near;
  first = subst (All Farther) (sym h.split)
      (All-append Farther h.before (found ∷ h.after)
      (All-weaker (λ n. IsNear word n → distance word found < distance word n) Farther (λ n more is. let far = more is in omega (arith, lt, far)) h.before h.first)
      (All-cons Farther found h.after (λ is. lt)
      (All-weaker (λ n. IsNear word n → distance word found ≤ distance word n) Farther (λ n more is. let far = more is in omega (arith, lt, far)) h.after h.least)));
  least = All-nil (λ n. IsNear word n → distance word name ≤ distance word n);
}
  where
    Farther : List ℕ → Type 0
    Farther n = IsNear word n → distance word name < distance word n

no_more : (word : List ℕ) (names : List (List ℕ)) (name : List ℕ) → HasNoNear word names → is_near word name ≡ false → HasNoNear word (names ++ name ∷ [])
no_more word names name h far = All-push (λ n. is_near word n ≡ false) names name h far

-- one name more
pub step : (word : List ℕ) (names : List (List ℕ)) (name : List ℕ) (best more : Option Close) → IsSoFar word names best
    → IfSome more (IsClose word name) → IfNone more (is_near word name ≡ false) → IsSoFar word (names ++ name ∷ []) (nearer best more)
step word names name None None h some none = no_more word names name h none
step word names name None (Some c) h some none = one c.name.now some.name
  where
    one : (n : List ℕ) → n ≡ name → (c.distance ≡ distance word c.name.now) × IsNearest word (names ++ name ∷ []) c.name.now
    one n e = (some.far ∙ ap (λ (m : List ℕ). distance word m) (sym some.name), subst (λ (m : List ℕ). IsNearest word (names ++ m ∷ []) c.name.now) some.name (first_near word names c h (subst (λ (m : List ℕ). IsNear word m) (sym some.name) some.near)))
step word names name (Some f) None h some none = (h.0, stays word names f.name.now name h.1 (λ is. cc))
step word names name (Some f) (Some c) h some none = choose (nat_lt c.distance f.distance) refl
  where
    far : c.distance ≡ distance word c.name.now
    far = some.far ∙ ap (λ (m : List ℕ). distance word m) (sym some.name)

    choose : (b : Bool) → nat_lt c.distance f.distance ≡ b → IsSoFar word (names ++ name ∷ []) (if b then Some c else Some f)
    choose true e = (
      far,
      subst (λ (m : List ℕ). IsNearest word (names ++ m ∷ []) c.name.now) some.name
          (nearer_one word names f.name.now c.name.now h.1 (subst (λ (m : List ℕ). IsNear word m) (sym some.name) some.near)
          (let lt = ltb-true c.distance f.distance e in let old = h.0 in omega (arith, lt, old, far))),
    )
    choose false e = (h.0, stays word names f.name.now name h.1 (λ is. let le = ltb-false c.distance f.distance e in let old = h.0 in let this = some.far in omega (arith, le, old, this)))

abbrev now : Bor (List ℕ) → List ℕ
now text = text.now

pub step_at : (word : List ℕ) (names : List (Bor (List ℕ))) (i : ℕ) (d : Bor (List ℕ)) (best more new : Option Close) → i < length names → IsSoFar word (map now (take i names)) best
    → IfSome more (IsClose word (get_or names i d).now) → IfNone more (is_near word (get_or names i d).now ≡ false) → new ≡ nearer best more → IsSoFar word (map now (take (i + 1) names)) new
step_at word names i d best more new lt h some none e =
    let grown = ap (map now) (take_more names i d lt) ∙ map-append now (take i names) (get_or names i d ∷ []) in
    subst (λ (l : List (List ℕ)). IsSoFar word l new) (sym grown)
    (subst (λ (b : Option Close). IsSoFar word (map now (take i names) ++ (get_or names i d).now ∷ []) b) (sym e) (step word (map now (take i names)) (get_or names i d).now best more h some none))

pub none_of : (word : List ℕ) (names : List (Bor (List ℕ))) (i : ℕ) (best : Option Close) → length names ≤ i → best ≡ None → IsSoFar word (map now (take i names)) best → HasNoNear word (map now names)
none_of word names i best le e h = subst (λ (l : List (Bor (List ℕ))). HasNoNear word (map now l)) (take_all i names le) (subst (λ (b : Option Close). IsSoFar word (map now (take i names)) b) e h)
