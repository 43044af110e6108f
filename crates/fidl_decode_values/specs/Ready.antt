-- When a decoder can go on: what it reads next stands where it can, and no link stands there or
-- behind the objects that came (docs/decoding.md, "What is still to be read").
use Rattle.std.specs.Prelude.{◌≡◌, ℕ, ◌%◌, List, [], ◌∷◌}
use Rattle.fidl_wire.specs.Term as ty
use Rattle.fidl_wire.specs.Figure.{figure_of}
use Rattle.fidl_table_format.specs.Terms.{declarations_of}
use Rattle.fidl_decode_model.specs.declared.frame.Frame.{Frame}
use Rattle.fidl_decode_model.specs.declared.frame.State.{State}
use Rattle.fidl_decode_model.specs.State.{Message, Position}
use Rattle.fidl_decode_model.specs.Machine.{at_of}
use Rattle.fidl_decode_model.specs.Frontier.{IsAhead, IsClear, CanRead, AreApart}
use Rattle.fidl_decode_values.specs.declared.decoder.Decoder.{Decoder}
use Rattle.fidl_decode_values.specs.Reading.{message}

-- so many bytes can be read from a place on, a multiple of the alignment
abbrev pub PlaceReady : Message → Position → (place size align : ℕ) → Type 0
PlaceReady m s place size align = IsAhead m s × CanRead s place size × (place % align ≡ 0)

-- a value of an entry can be read at a place
abbrev pub ValueReady : List ℕ → Message → Position → (entry place : ℕ) → Type 0
ValueReady t m s e place =
    let f = figure_of (declarations_of t).figures (ty.named e) in
    PlaceReady m s place f.size f.align

-- what is left of a frame can be read
abbrev pub FrameReady : List ℕ → Message → Position → Frame → Type 0
FrameReady t m s f = IsAhead m s × IsClear t s f

-- the same of a decoder and its state
abbrev pub CanReadPlace : Decoder → State → (place size align : ℕ) → Type 0
CanReadPlace d s place size align = PlaceReady (message d) (at_of s) place size align

abbrev pub CanReadValue : Decoder → State → (entry place : ℕ) → Type 0
CanReadValue d s entry place = ValueReady d.table.now (message d) (at_of s) entry place

abbrev pub CanReadFrame : Decoder → State → Frame → Type 0
CanReadFrame d s f = FrameReady d.table.now (message d) (at_of s) f

-- a frame has no byte to read that another of these has
abbrev pub IsApart : Frame → List Frame → Type 0
IsApart f [] = Unit {0}
IsApart f (g ∷ gs) = AreApart f g × IsApart f gs

-- what is left of these frames can be read: no byte twice
abbrev pub AreClear : List ℕ → Position → List Frame → Type 0
AreClear t s [] = Unit {0}
AreClear t s (f ∷ fs) = IsClear t s f × IsApart f fs × AreClear t s fs

-- what is left of a stack of frames can be read
abbrev pub StackReady : List ℕ → Message → Position → List Frame → Type 0
StackReady t m s fs = IsAhead m s × AreClear t s fs

abbrev pub CanReadStack : Decoder → State → List Frame → Type 0
CanReadStack d s fs = StackReady d.table.now (message d) (at_of s) fs
