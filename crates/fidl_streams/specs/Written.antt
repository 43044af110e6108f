-- What a writer has taken, and what writing some bytes does to it.
use Rattle.std.specs.Prelude.{◌≡◌, ℕ, ◌<◌, List, ◌++◌, length, Option, Result, MatchResult}
use Rattle.std.specs.Io.KnownBytes.{Appends}
use Rattle.fidl_streams.specs.Counts.{add_count}

-- what a writer has taken: its bytes, where they are known, and how many of its calls failed
pub record Taken : Type 0 where
  pub contents : Option (List ℕ)
  pub failures : ℕ

-- all of the bytes were taken, and no call failed
pub record Takes (old new : Taken) (bs : List ℕ) : Type 0 where
  pub contents : Appends old.contents new.contents bs
  pub failures : new.failures ≡ old.failures

-- a front of the bytes was taken that is not all of them, and one call failed
pub record TakesPart (old new : Taken) (bs : List ℕ) : Type 0 where
  pub front : List ℕ
  pub rest : List ℕ
  pub whole : bs ≡ front ++ rest
  pub left : 0 < length rest
  pub contents : Appends old.contents new.contents front
  pub failures : new.failures ≡ add_count old.failures 1

-- at `Ok` all of the bytes were taken, and at `Err` a part of them
abbrev pub Writes : {T E : Type 0} → Taken → Taken → List ℕ → Result T E → Type 0
Writes old new bs result = MatchResult result (λ _. Takes old new bs) (λ _. TakesPart old new bs)
