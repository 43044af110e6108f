-- What a write does to the bytes that a writer holds, where those are known.
use Rattle.std.specs.Prelude.{◌≡◌, ℕ, List, ◌++◌, Option, Result, MatchResult}
use Rattle.std.specs.Io.KnownBytes.{Appends}

-- known bytes grow by a front of bs, which may be none or all of it
abbrev pub AppendsFront : Option (List ℕ) → Option (List ℕ) → List ℕ → Type 0
AppendsFront old new bs = (front : List ℕ) × (rest : List ℕ) × (bs ≡ front ++ rest)
    × Appends old new front

-- at `Ok` all of bs was written, and at `Err` a front of it
abbrev pub Writes : {T E : Type 0} → Option (List ℕ) → Option (List ℕ) → List ℕ → Result T E
    → Type 0
Writes old new bs result =
    MatchResult result (λ _. Appends old new bs) (λ _. AppendsFront old new bs)
