-- Which name a word that is none is near to (docs/program.md, "Suggestions").
use Rattle.std.specs.Prelude.{◌≡◌, ◌≤◌, ◌<◌, ℕ, ◌/◌, ◌==◌, ◌&&◌, nat_le, nat_lt, max, Bool, Option, Some, None}
use Rattle.std.specs.Prelude.{if◌then◌else◌, List, ◌∷◌, ◌++◌, length, All, nat_eq, true, false}
use Rattle.std.specs.List.{after_last, list_any}
use Rattle.strsim.specs.Edits.{levenshtein_row}
use Rattle.fidl_hints.specs.declared.names.Close.{Close}

abbrev pub is_slash : ℕ → Bool
is_slash b = b == 47

-- the part of a name that a word is compared with: what follows the last `/` where the word has
-- none, so that `Entry` is near to `demo.store/Entry`
abbrev pub compared : (word name : List ℕ) → List ℕ
compared word name = if list_any is_slash word then name else after_last is_slash name

-- how many bytes are inserted, left out or replaced between them
abbrev pub edits : (word part : List ℕ) → ℕ
edits word part = levenshtein_row nat_eq word part (length part)

-- how far a word is from a name
abbrev pub distance : (word name : List ℕ) → ℕ
distance word name = edits word (compared word name)

-- both have at most 64 bytes, and at most a third of the word's bytes differ; one byte always may
abbrev pub is_near : (word name : List ℕ) → Bool
is_near word name = nat_le (length word) 64 && nat_le (length (compared word name)) 64
    && nat_le (distance word name) (max 3 (length word) / 3)

abbrev pub IsNear : (word name : List ℕ) → Type 0
IsNear word name = is_near word name ≡ true

-- of the names that are near to a word, this is the first of those with the least distance
pub record IsNearest (word : List ℕ) (names : List (List ℕ)) (found : List ℕ) : Type 0 where
  pub before : List (List ℕ)
  pub after : List (List ℕ)
  pub split : names ≡ before ++ found ∷ after
  pub near : IsNear word found
  pub first : All (λ name. IsNear word name → distance word found < distance word name) before
  pub least : All (λ name. IsNear word name → distance word found ≤ distance word name) after

-- no name is near to the word
abbrev pub HasNoNear : (word : List ℕ) (names : List (List ℕ)) → Type 0
HasNoNear word names = All (λ name. is_near word name ≡ false) names

-- the nearer of what was found and one more; what was found where both are as near
abbrev pub nearer : (best more : Option Close) → Option Close
nearer None more = more
nearer (Some found) None = Some found
nearer (Some found) (Some close) =
    if nat_lt close.distance found.distance then Some close else Some found

-- this is near to the word, and so far from it
pub record IsClose (word of : List ℕ) (close : Close) : Type 0 where
  pub name : close.name.now ≡ of
  pub far : close.distance ≡ distance word of
  pub near : IsNear word of
