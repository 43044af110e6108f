-- What is left to read, and what the whole comes to when it is read.
use Rattle.std.proofs.Common.{◌≡◌, ◌↔◌, List, [], ◌∷◌, ◌++◌, ℕ, Bool, true, false, not, IsTrue, refl, subst}
use Rattle.std.specs.Prelude.{codes}
use Prim.Native.String.{String}
use Rattle.fidl_spelling.specs.Words.{Words}
use Rattle.fidl_spelling.specs.Spells.{The, ◌⨾◌}
use Rattle.fidl_reading.specs.Reads.{StandsNot, has_some}
use Rattle.fidl_reading.proofs.Narrowing.{Narrows, all, the_word}

-- wherever the whole comes, some part comes at a later place; and where a part comes, the whole does
-- that it is joined to
pub record Leads {U V : Type 0} (Whole : U → Words → Words → Type 0) (from : Words) (Part : V → Words → Words → Type 0) (to : Words) (join : V → U) : Type 0 where
  pub narrows : Narrows Whole from Part to
  pub sound : (v : V) (r : Words) → Part v to r → Whole (join v) from r

pub leads_all : {U : Type 0} (Whole : U → Words → Words → Type 0) (from : Words) → Leads Whole from Whole from (λ u. u)
leads_all Whole from = record { narrows = all Whole from; sound = λ v r p. p }

-- a fixed word was read
pub leads_word : {U V : Type 0} {Whole : U → Words → Words → Type 0} {from : Words} {join : V → U} (w : String) (Part : V → Words → Words → Type 0) (to next : Words)
    → Leads Whole from (λ v. The w ⨾ Part v) to join → to ≡ codes w ∷ next → Leads Whole from Part next join
leads_word w Part to next n e = record { narrows = the_word w Part to next n.narrows e; sound = λ v r p. n.sound v r (next, e, p) }

-- the same by another name
pub leads_as : {U V : Type 0} {Whole : U → Words → Words → Type 0} {from : Words} {Part : V → Words → Words → Type 0} {to : Words} (join other : V → U) → ((v : V) → join v ≡ other v) → Leads Whole from Part to join
    → Leads Whole from Part to other
leads_as {Whole = Whole} {from = from} join other e n = record { narrows = n.narrows; sound = λ v r p. subst (λ u. Whole u from r) (e v) (n.sound v r p) }

-- a list has some element, where it was not found empty, and behind any element
pub some_if : {A : Type 0} (b : Bool) (xs : List A) → (IsTrue b ↔ (xs ≡ [])) → not b ≡ has_some xs
some_if true [] h = refl
some_if false [] h = let never : IsTrue false = h.1 refl in absurd (let e : false ≡ true = never in cc)
some_if true (x ∷ xs) h = let e : x ∷ xs ≡ [] = h.0 refl in absurd (cc e)
some_if false (x ∷ xs) h = refl

pub some_more : {A : Type 0} (xs : List A) (x : A) → has_some (xs ++ x ∷ []) ≡ true
some_more [] x = refl
some_more (y ∷ xs) x = refl

-- a word that does not come first
pub not_begun : (b : Bool) (ws : Words) (w : List ℕ) → (IsTrue b ↔ ((rest : Words) × (ws ≡ w ∷ rest))) → b ≡ false → StandsNot (λ vs rest. vs ≡ w ∷ rest) ws
not_begun b ws w h is r e = let yes : b ≡ true = h.1 (r, e) in absurd (cc (yes, is))

pub append_nil : {A : Type 0} (xs : List A) → xs ++ [] ≡ xs
append_nil [] = refl
append_nil (x ∷ xs) = let e = append_nil xs in λ i. x ∷ e i
