-- What is left to read, word by word: where the rest cannot come, the whole cannot.
use Rattle.std.proofs.Common.{◌≡◌, List, ◌∷◌, ℕ, sym, subst, ◌∙◌}
use Rattle.std.specs.Prelude.{codes}
use Prim.Native.String.{String}
use Rattle.fidl_spelling.specs.Words.{Words}
use Rattle.fidl_spelling.specs.Spells.{The, One, ◌⨾◌}
use Rattle.fidl_spelling.proofs.Det.{word_tail}
use Rattle.fidl_reading.specs.Reads.{StandsNot}

-- wherever the whole comes, some part comes at a later place
pub record Narrows {U V : Type 0} (Whole : U → Words → Words → Type 0) (from : Words) (Part : V → Words → Words → Type 0) (to : Words) : Type 0 where
  pub narrow : (u : U) (r : Words) → Whole u from r → (v : V) × Part v to r

pub all : {U : Type 0} (Whole : U → Words → Words → Type 0) (from : Words) → Narrows Whole from Whole from
all Whole from = record { narrow = λ u r p. (u, p) }

-- a fixed word was read
pub the_word : {U V : Type 0} {Whole : U → Words → Words → Type 0} {from : Words} (w : String) (Part : V → Words → Words → Type 0) (to next : Words)
    → Narrows Whole from (λ v. The w ⨾ Part v) to → to ≡ codes w ∷ next → Narrows Whole from Part next
the_word w Part to next n e =
    record {
      narrow = λ u r p.
          let x = n.narrow u r p in
          let same : x.1.0 ≡ next = word_tail (codes w) (codes w) x.1.0 next (sym x.1.1 ∙ e) in
          (x.0, subst (λ l. Part x.0 l r) same x.1.2);
    }

-- some word was read, on which the rest does not depend
pub some_word : {U V : Type 0} {Whole : U → Words → Words → Type 0} {from : Words} (A : V → List ℕ → Type 0) (Part : V → Words → Words → Type 0) (w : List ℕ) (to next : Words)
    → Narrows Whole from (λ v. One (A v) ⨾ Part v) to → to ≡ w ∷ next → Narrows Whole from Part next
some_word A Part w to next n e =
    record {
      narrow = λ u r p.
          let x = n.narrow u r p in
          let same : x.1.0 ≡ next = word_tail x.1.1.0 w x.1.0 next (sym x.1.1.2 ∙ e) in
          (x.0, subst (λ l. Part x.0 l r) same x.1.2);
    }

-- what comes next cannot come
pub nothing : {U V : Type 0} {Whole : U → Words → Words → Type 0} {from : Words} (A Part : V → Words → Words → Type 0) (to : Words)
    → Narrows Whole from (λ v. A v ⨾ Part v) to → ((v : V) → StandsNot (A v) to) → (u : U) → StandsNot (Whole u) from
nothing A Part to n h u r p = let x = n.narrow u r p in h x.0 x.1.0 x.1.1

pub nothing_more : {U V : Type 0} {Whole : U → Words → Words → Type 0} {from : Words} (Part : V → Words → Words → Type 0) (to : Words)
    → Narrows Whole from Part to → ((v : V) → StandsNot (Part v) to) → (u : U) → StandsNot (Whole u) from
nothing_more Part to n h u r p = let x = n.narrow u r p in h x.0 r x.1

-- something was read whose end is the same whatever it is
pub passed : {U V : Type 0} {Whole : U → Words → Words → Type 0} {from : Words} (A Part : V → Words → Words → Type 0) (to next : Words) → Narrows Whole from (λ v. A v ⨾ Part v) to → ((v : V) (s : Words) → A v to s → next ≡ s)
    → Narrows Whole from Part next
passed A Part to next n same =
    record {
      narrow = λ u r p.
          let x = n.narrow u r p in
          (x.0, subst (λ l. Part x.0 l r) (sym (same x.0 x.1.0 x.1.1)) x.1.2);
    }
