-- The message and the handles of a whole frame (docs/service.md, "Frames").
use Rattle.std.specs.Prelude.{ℕ, zero, suc, ◌+◌, List, [], ◌∷◌, drop, slice_range}
use Rattle.std.specs.Int.{w32}
use Rattle.fidl_wire.specs.Field.{number_at}
use Rattle.fidl_wire.specs.declared.handle.HandleInfo.{HandleInfo}

-- how many bytes the message of a frame has
unfoldable pub message_length : (frame : List ℕ) → ℕ
message_length frame = number_at w32 frame 0

-- how many handles come with it
unfoldable pub handle_count : (frame : List ℕ) → ℕ
handle_count frame = number_at w32 frame 4

-- the message of a frame
unfoldable pub message_of : (frame : List ℕ) → List ℕ
message_of frame = slice_range frame 8 (8 + message_length frame)

-- the handle that is written first in these bytes: its id, object type and rights
unfoldable pub handle_of : List ℕ → HandleInfo
handle_of bytes = record {
  id = number_at w32 bytes 0;
  object_type = number_at w32 bytes 4;
  rights = number_at w32 bytes 8;
}

-- the handles that are written in these bytes, each in twelve of them
abbrev pub handles_from : (count : ℕ) → List ℕ → List HandleInfo
handles_from zero bytes = []
handles_from (suc n) bytes = handle_of bytes ∷ handles_from n (drop 12 bytes)

-- the handles of a frame
unfoldable pub handles_of : (frame : List ℕ) → List HandleInfo
handles_of frame = handles_from (handle_count frame) (drop (8 + message_length frame) frame)
