-- What became of bytes that were to be written and handed on.
use Rattle.std.specs.Prelude.{◌≡◌, ℕ, List}
use Rattle.std.specs.Io.KnownBytes.{Appends}
use Rattle.fidl_streams.specs.Counts.{add_count}
use Rattle.fidl_streams.specs.Written.{Taken, Takes, TakesPart}
use Rattle.fidl_streams.specs.declared.writing.Sent.{Sent}
use Rattle.fidl_streams.specs.declared.writing.Sent.TheVariants.{Done, Unflushed, Cut}

-- all of the bytes were taken, and the one call that failed is the flush behind them
pub record TakesUnflushed (old new : Taken) (bs : List ℕ) : Type 0 where
  pub contents : Appends old.contents new.contents bs
  pub failures : new.failures ≡ add_count old.failures 1

-- what became of the bytes says what was taken
abbrev pub Sends : Taken → Taken → List ℕ → Sent → Type 0
Sends old new bs Done = Takes old new bs
Sends old new bs Unflushed = TakesUnflushed old new bs
Sends old new bs Cut = TakesPart old new bs
