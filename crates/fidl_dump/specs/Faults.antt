-- Why a frame has no line (docs/program.md, "dump").
use Rattle.std.specs.Prelude.{◌≡◌, ◌≢◌, ℕ, ◌+◌, List, [], ◌∷◌, ◌++◌, length, codes}
use Rattle.std.specs.Prelude.{Option, Some, None}
use Rattle.fidl_wire.specs.Term as ty
use Rattle.fidl_table_format.specs.Terms.{declarations_of}
use Rattle.fidl_frames.specs.Frames.{between, frames_of}
use Rattle.fidl_header.specs.Header.{IsHeader}
use Rattle.fidl_header.specs.Faults as header
use Rattle.fidl_header.specs.declared.fault.HeaderFault.{HeaderFault}
use Rattle.fidl_decode_model.specs.Faults as decode
use Rattle.fidl_decode_model.specs.declared.fault.DecodeFault.{DecodeFault}
use Rattle.fidl_verify.specs.declared.method.Payload.TheVariants.{Empty, Entry}
use Rattle.fidl_verify.specs.Lookups.{TableProtocol}
use Rattle.fidl_requests.specs.Endings as endings
use Rattle.fidl_requests.specs.declared.ended.Ended.TheVariants as ended
use Rattle.fidl_requests.specs.Frame.{message_of, handles_of}
use Rattle.fidl_requests.specs.Verdict.{frame_head}
use Rattle.fidl_dump.specs.declared.direction.Direction.{Direction}
use Rattle.fidl_dump.specs.declared.fault.FrameFault.{FrameFault}
use Rattle.fidl_dump.specs.declared.fault.FrameFault.TheVariants.{Header, Body, BadMessage}
use Rattle.fidl_dump.specs.declared.fault.FrameFault.TheVariants.{BadFrame}
use Rattle.fidl_dump.specs.Methods.{NamesMethod, carried_of}
use Rattle.fidl_dump.specs.Lines.{body_of, IsBare}

-- the stage that refuses the frame
abbrev pub stage_of : FrameFault → List ℕ
stage_of (Header fault) = codes "header"
stage_of (Body fault) = codes "decode"
stage_of BadMessage = codes "ended"
stage_of BadFrame = codes "ended"

-- the number of the refusal in its stage
abbrev pub number_of : FrameFault → ℕ
number_of (Header fault) = header.number_of fault
number_of (Body fault) = decode.number_of fault
number_of BadMessage = endings.number_of ended.BadMessage
number_of BadFrame = endings.number_of ended.BadFrame

-- the name of the refusal
abbrev pub name_of : FrameFault → List ℕ
name_of (Header fault) = header.name_of fault
name_of (Body fault) = decode.name_of fault
name_of BadMessage = endings.name_of ended.BadMessage
name_of BadFrame = endings.name_of ended.BadFrame

-- the offset in the body, where it is the body that is refused
abbrev pub place_of : FrameFault → Option ℕ
place_of (Header fault) = None
place_of (Body fault) = Some (decode.place_of fault)
place_of BadMessage = None
place_of BadFrame = None

-- the refusal is true of the body and the handles of a frame, as the type of an entry
abbrev pub IsBodyFault : (table : List ℕ) → (entry : ℕ) → (frame : List ℕ) → DecodeFault → Type 0
IsBodyFault table entry frame fault = decode.IsTold (declarations_of table) (ty.named entry)
    (body_of frame) (handles_of frame) fault

-- why a whole frame has no line: what the refusal says of it
pub data IsFrameFault (p : TableProtocol) (direction : Direction) (frame : List ℕ) : FrameFault
    → Type 0 where
  -- the message does not begin with a header
  no_header : (fault : HeaderFault) → header.IsRefused (message_of frame) fault
      → IsFrameFault p direction frame (Header fault)
  -- the body and the handles encode no value of what the method's message carries
  no_value : (number entry : ℕ) → (fault : DecodeFault) → IsHeader (message_of frame)
      → NamesMethod p (frame_head frame).ordinal number
      → carried_of p.table direction number ≡ Entry entry
      → IsBodyFault p.table entry frame fault
      → IsFrameFault p direction frame (Body fault)
  -- the method's message carries nothing, and there is a body or a handle
  not_bare : (number : ℕ) → IsHeader (message_of frame)
      → NamesMethod p (frame_head frame).ordinal number
      → carried_of p.table direction number ≡ Empty → ¬ (IsBare frame)
      → IsFrameFault p direction frame BadMessage

-- an input that does not begin with a whole frame, and does not end between frames
abbrev pub HasNoFrame : (input : List ℕ) → Type 0
HasNoFrame input = ((frames_of input).frames ≡ []) × ((frames_of input).tail ≢ between)

-- the whole frame of an input that has this number, counted from 1
pub record IsFrameAt (input : List ℕ) (number : ℕ) (frame : List ℕ) : Type 0 where
  pub before : List (List ℕ)
  pub after : List (List ℕ)
  pub frames : (frames_of input).frames ≡ before ++ frame ∷ after
  pub counted : number ≡ length before + 1

-- a refusal of the frame of this number: of a whole one, or that of the end of the input behind all
-- whole ones, inside a frame or past a limit
abbrev pub IsFaultAt : TableProtocol → Direction → (input : List ℕ) → (number : ℕ) → FrameFault
    → Type 0
IsFaultAt p direction input number BadFrame =
    (number ≡ length (frames_of input).frames + 1) × ((frames_of input).tail ≢ between)
IsFaultAt p direction input number fault =
    (frame : List ℕ) × IsFrameAt input number frame × IsFrameFault p direction frame fault
