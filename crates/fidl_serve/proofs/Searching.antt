-- A search by halving among methods whose ordinals rise.
use Rattle.std.proofs.Common.{◌≡◌, ℕ, ◌+◌, ◌<◌, ◌≤◌, List, length, get_or, inl, inr, arith, sym, ap, subst, ◌∙◌}
use Rattle.std.specs.List.{AllPairs}
use Rattle.std.proofs.lemmas.Bool.{cases_lt}
use Rattle.std.proofs.lemmas.List.{get_or_read}
use Rattle.fidl_script.specs.Script.{Replies}
use Rattle.fidl_serve.specs.Cursors.{HasMethodOf, IsMethodPlace}

-- the ordinals rise
abbrev pub Rise : List Replies → Type 0
Rise rs = AllPairs (λ (r q : Replies). r.ordinal < q.ordinal) rs

-- the ordinal of the method that was read at a place
pub ordinal_read : (rs : List Replies) (k here : ℕ) (r : Replies) → k < length rs → r ≡ get_or rs k r → here ≡ r.ordinal → (d : Replies) → (get_or rs k d).ordinal ≡ here
ordinal_read rs k here r h e f d = sym (f ∙ ap (λ (x : Replies). x.ordinal) (get_or_read rs k r h e d))

-- up to a method whose ordinal is less, all are less
pub less_upto : (rs : List Replies) (ordinal middle here : ℕ) → Rise rs → middle < length rs → ((d : Replies) → (get_or rs middle d).ordinal ≡ here) → here < ordinal → (d : Replies) (k : ℕ) → k < middle + 1 → (get_or rs k d).ordinal < ordinal
less_upto rs ordinal middle here rise within is less d k h =
    elim (cases_lt k middle) [
      | inl before ↦ omega (arith, rise k middle d before within, is d, less)
      | inr from ↦ let same : middle ≡ k = omega (arith, h, from) in subst (λ (i : ℕ). (get_or rs i d).ordinal < ordinal) same (omega (arith, is d, less))
    ]

-- from a method whose ordinal is greater on, all are greater
pub more_from : (rs : List Replies) (ordinal middle here : ℕ) → Rise rs → ((d : Replies) → (get_or rs middle d).ordinal ≡ here) → ordinal < here → (d : Replies) (k : ℕ) → middle ≤ k → k < length rs → ordinal < (get_or rs k d).ordinal
more_from rs ordinal middle here rise is more d k h within =
    elim (cases_lt middle k) [
      | inl behind ↦ omega (arith, rise middle k d behind within, is d, more)
      | inr upto ↦ let same : middle ≡ k = omega (arith, h, upto) in subst (λ (i : ℕ). ordinal < (get_or rs i d).ordinal) same (omega (arith, is d, more))
    ]

-- the method was found
pub found : (rs : List Replies) (ordinal middle here : ℕ) → Rise rs → middle < length rs → ((d : Replies) → (get_or rs middle d).ordinal ≡ here) → ordinal ≤ here → here ≤ ordinal → IsMethodPlace ordinal rs middle
found rs ordinal middle here rise within is low high = record {
  within = within;
  is = λ d. omega (arith, is d, low, high);
  first = λ d k h e. let less = rise k middle d h within in omega (arith, less, is d, e, high);
}

-- it is somewhere
pub nowhere : (rs : List Replies) (ordinal low high : ℕ) → HasMethodOf ordinal rs → ((d : Replies) (k : ℕ) → k < low → (get_or rs k d).ordinal < ordinal)
    → ((d : Replies) (k : ℕ) → high ≤ k → k < length rs → ordinal < (get_or rs k d).ordinal) → high ≤ low → ⊥
nowhere rs ordinal low high m less more done =
    let k = m.1.0 in
    let is : (get_or rs m.1.0 m.0).ordinal ≡ ordinal = ap (λ (x : Replies). x.ordinal) m.1.2 ∙ m.2 in
    elim (cases_lt k low) [
      | inl before ↦ omega (arith, less m.0 k before, is)
      | inr from ↦ omega (arith, more m.0 k (omega (arith, from, done)) m.1.1, is)
    ]
