-- What an encoder has written so far, and which encoding it has added.
use Rattle.std.specs.Prelude.{◌≡◌, ◌≤◌, ℕ, ◌+◌, List, ◌++◌, length}
use Rattle.fidl_limits.specs.declared.limits.TheConstants.{MAX_MESSAGE_BYTES, MAX_MESSAGE_HANDLES}
use Rattle.fidl_wire.specs.declared.handle.HandleInfo.{HandleInfo}
use Rattle.fidl_wire.specs.Encoding.{Encoding, zeros}
use Rattle.fidl_encode.specs.declared.message.Message.{Message}

-- the bytes and handles of a message so far
pub record Written : Type 0 where
  pub bytes : List ℕ
  pub handles : List HandleInfo

-- a message so far
abbrev pub written : Message → Written
written m = record { bytes = m.bytes.items; handles = m.handles.items }

-- it is within the limits of a message
pub record IsWithin (w : Written) : Type 0 where
  pub short : length w.bytes ≤ MAX_MESSAGE_BYTES
  pub few : length w.handles ≤ MAX_MESSAGE_HANDLES

-- bytes are written over the zeros that were kept for them at a place
abbrev pub IsOver : (old new : List ℕ) → (at : ℕ) → (bytes : List ℕ) → Type 0
IsOver old new at bytes = (front back : List ℕ) → length front ≡ at
    → old ≡ front ++ (zeros (length bytes) ++ back) → new ≡ front ++ (bytes ++ back)

-- from one to the other an encoding was added: its inline part in place of the zeros that were kept
-- for it at a place, what it has out of line behind all bytes, and its handles behind all handles
pub record Adds (old new : Written) (at : ℕ) (e : Encoding) : Type 0 where
  pub bytes : (front back : List ℕ) → length front ≡ at
      → old.bytes ≡ front ++ (zeros (length e.inline) ++ back)
      → new.bytes ≡ front ++ (e.inline ++ (back ++ e.out))
  pub longer : length new.bytes ≡ length old.bytes + length e.out
  pub handles : new.handles ≡ old.handles ++ e.handles
