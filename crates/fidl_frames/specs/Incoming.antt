-- What a read of a frame has given (docs/service.md, "Frames").
use Rattle.std.specs.Prelude.{◌≡◌, ℕ, ◌<◌, ◌≤◌, Bool, true, false, List, [], length, take, Option}
use Rattle.std.specs.Io.KnownBytes.{Consumes, IsAtEnd}
use Rattle.fidl_frames.specs.Frames.{IsFrame, IsBegun, IsPastLimit}
use Rattle.fidl_frames.specs.declared.incoming.Incoming.{Incoming}
use Rattle.fidl_frames.specs.declared.incoming.Incoming.TheVariants.{Frame, Between, Inside}
use Rattle.fidl_frames.specs.declared.incoming.Incoming.TheVariants.{PastLimit, Failure, NoReads}

-- the bytes that were read, and what they are
abbrev pub IsIncoming : (has left : Option (List ℕ)) (buffer given : List ℕ) → Incoming
    → Type 0
IsIncoming has left buffer given (Frame n) =
    (given ≡ take n buffer) × (n ≤ length buffer) × IsFrame given
IsIncoming has left buffer given Between = (given ≡ []) × IsAtEnd left
IsIncoming has left buffer given Inside = IsBegun given × IsAtEnd left
IsIncoming has left buffer given PastLimit = IsPastLimit given
IsIncoming has left buffer given Failure = 0 < length given → IsBegun given
IsIncoming has left buffer given NoReads = 0 < length given → IsBegun given

-- what a read of a frame has taken from the reader, and what is left in it
pub record Reads (has left : Option (List ℕ)) (buffer : List ℕ) (incoming : Incoming) : Type 0
  where
    pub given : List ℕ
    pub consumed : Consumes has left given
    pub is : IsIncoming has left buffer given incoming

-- whether the read of a frame ended by a failure of the reader
abbrev pub is_failed : Incoming → Bool
is_failed (Frame n) = false
is_failed Between = false
is_failed Inside = false
is_failed PastLimit = false
is_failed Failure = true
is_failed NoReads = false
