-- What frames are read of: the table and the message of a decoder, whatever links are noted in it.
use Rattle.std.specs.Prelude.{ℕ, List}
use Rattle.fidl_wire.specs.declared.handle.HandleInfo.{HandleInfo}
use Rattle.fidl_decode_model.specs.declared.frame.Frame.{Frame}
use Rattle.fidl_decode_model.specs.declared.frame.State.{State}
use Rattle.fidl_decode_model.specs.State as state
use Rattle.fidl_decode_values.specs.Reading as decoder
use Rattle.fidl_decode_values.specs.Ready as ready
use Rattle.fidl_decode.specs.declared.frames.Frames.{Frames}

-- the bytes of the table
abbrev pub table : Frames → List ℕ
table fs = fs.decoder.table.now

-- the bytes of the message as it came
abbrev pub came : Frames → List ℕ
came fs = decoder.came fs.decoder

-- the handles that came with it
abbrev pub handles : Frames → List HandleInfo
handles fs = fs.decoder.handles.now

-- the message, with its handles
abbrev pub message : Frames → state.Message
message fs = decoder.message fs.decoder

-- the links of a state are those of the message
abbrev pub Holds : Frames → State → Type 0
Holds fs s = decoder.Holds fs.decoder s

-- what is left of a frame can be read, and what is left of a stack
abbrev pub CanReadFrame : Frames → State → Frame → Type 0
CanReadFrame fs s f = ready.CanReadFrame fs.decoder s f

abbrev pub CanReadStack : Frames → State → List Frame → Type 0
CanReadStack fs s f = ready.CanReadStack fs.decoder s f

-- a value can be read at a place, and so many bytes of an alignment
abbrev pub CanReadValue : Frames → State → (entry place : ℕ) → Type 0
CanReadValue fs s entry place = ready.CanReadValue fs.decoder s entry place

abbrev pub CanReadPlace : Frames → State → (place size align : ℕ) → Type 0
CanReadPlace fs s place size align = ready.CanReadPlace fs.decoder s place size align
