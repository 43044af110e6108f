-- What reading a frame leaves, which may be three frames.
use Rattle.std.specs.Prelude.{◌≡◌, ℕ, ◌+◌, List, Option, Some, None}
use Rattle.fidl_decode_model.specs.declared.frame.Frame.{Frame}
use Rattle.fidl_decode_model.specs.declared.frame.Turn.{Turn}
use Rattle.fidl_decode_model.specs.State.{Message, Position}
use Rattle.fidl_decode_model.specs.Machine.{Turns}
use Rattle.fidl_decode.specs.declared.pending.Pending.{Pending}

-- a frame is read up to one that stands above this frame, and that one by a turn
pub record LeavesUnder (t : List ℕ) (m : Message) (f : Frame) (old new : Position) (spent : ℕ)
    (under : Frame) (turn : Turn) : Type 0 where
  pub above : Frame
  pub mid : Position
  pub before : ℕ
  pub behind : ℕ
  pub all : spent ≡ before + behind
  pub up_to : Turns t m f old mid before (record { below = Some above; rest = Some under })
  pub turns : Turns t m above mid new behind turn

-- what is left of a frame is what a turn on it leaves, or, where a frame is under that, what a turn on
-- the frame above this one does
abbrev pub LeavesIf : List ℕ → Message → Frame → (old new : Position) → (spent : ℕ) → Option Frame
    → Turn → Type 0
LeavesIf t m f old new spent None turn = Turns t m f old new spent turn
LeavesIf t m f old new spent (Some under) turn = LeavesUnder t m f old new spent under turn

-- what reading a frame leaves stands for what was left of it: the frame under the turn is read last
abbrev pub Leaves : List ℕ → Message → Frame → (old new : Position) → (spent : ℕ) → Pending
    → Type 0
Leaves t m f old new spent p = LeavesIf t m f old new spent p.under p.turn
