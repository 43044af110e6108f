-- What stands in a message, and what a decoder still has to read of it, where the values are of at
-- most so much work (docs/decoding.md, "Steps").
use Rattle.std.specs.Prelude.{◌≡◌, ℕ, ◌+◌, ◌≤◌, List, [], ◌∷◌, Option, Some, None}
use Rattle.fidl_wire.specs.Term.{Term}
use Rattle.fidl_wire.specs.Term as ty
use Rattle.fidl_wire.specs.Figure.{Declarations}
use Rattle.fidl_table_format.specs.Section.{header_of}
use Rattle.fidl_table_format.specs.Terms.{declarations_of, members_of}
use Rattle.fidl_decode_model.specs.declared.frame.Frame.{Frame}
use Rattle.fidl_decode_model.specs.declared.frame.Remaining.{Remaining}
use Rattle.fidl_decode_model.specs.declared.frame.Remaining.TheVariants.{Rows, Elements, Envelopes}
use Rattle.fidl_decode_model.specs.declared.frame.Remaining.TheVariants.{Content}
use Rattle.fidl_decode_model.specs.Rows.{Row, table_rows, element_rows}
use Rattle.fidl_decode_model.specs.Envelopes.{Contained, IsUntil}
use Rattle.fidl_decode_model.specs.State.{Message, Position, ValueAt, Members, Slots}
use Rattle.fidl_decode_model.specs.Work.{Work, values_work, member_work, members_work}

-- a value of at most this work stands at a place
abbrev pub ValueWorth : Declarations → Message → (held : ℕ) → Term → (place : ℕ)
    → (from to : Position) → (w : ℕ) → Type 0
ValueWorth ds m held t place from to w = (x : ValueAt ds m held t place from to)
    × (Work x.value ≤ w)

-- the same of rows
abbrev pub MembersWorth : Declarations → Message → (held size base done : ℕ) → List Row
    → (from to : Position) → (w : ℕ) → Type 0
MembersWorth ds m held size base done rs from to w =
    (x : Members ds m held size base done rs from to) × (values_work x.values ≤ w)

-- the same of the member of an envelope
abbrev pub ContainedWorth : Declarations → Message → (held : ℕ) → Option Term → (envelope : ℕ)
    → (from to : Position) → (w : ℕ) → Type 0
ContainedWorth ds m held t envelope from to w = (x : Contained ds m held t envelope from to)
    × (member_work x.content ≤ w)

-- the same of the members of a table
abbrev pub SlotsWorth : Declarations → Message → (held : ℕ) → ty.Rows → (read n base : ℕ)
    → (from to : Position) → (w : ℕ) → Type 0
SlotsWorth ds m held rows read n base from to w = (x : Slots ds m held rows read n base from to)
    × (members_work x.members ≤ w)

-- the same of what a frame still has to read, where this is left of it
abbrev pub LeftWorth : List ℕ → Message → Frame → Remaining → (from to : Position) → (w : ℕ)
    → Type 0
LeftWorth t m f (Rows first count) from to w =
    MembersWorth (declarations_of t) m f.depth f.size f.base f.done
    (table_rows t (header_of t) first count) from to w
LeftWorth t m f (Elements entry size count) from to w =
    MembersWorth (declarations_of t) m f.depth f.size f.base f.done
    (element_rows entry size count f.done) from to w
LeftWorth t m f (Envelopes entry read count) from to w =
    SlotsWorth (declarations_of t) m f.depth (members_of t entry) read (read + count) f.base from to
    w
LeftWorth t m f (Content entry size count until) from to w =
    MembersWorth (declarations_of t) m f.depth f.size f.base f.done
    (element_rows entry size count f.done) from to w × IsUntil until to

-- the same of what a frame still has to read
abbrev pub ReadsWorth : List ℕ → Message → Frame → (from to : Position) → (w : ℕ) → Type 0
ReadsWorth t m f from to w = LeftWorth t m f f.left from to w

-- the same where there may be none
abbrev pub WorthIf : List ℕ → Message → Option Frame → (from to : Position) → (w : ℕ) → Type 0
WorthIf t m None from to w = from ≡ to
WorthIf t m (Some f) from to w = ReadsWorth t m f from to w

-- the same of a stack of frames, the last frame first
abbrev pub FinishesWorth : List ℕ → Message → List Frame → (from to : Position) → (w : ℕ) → Type 0
FinishesWorth t m [] from to w = from ≡ to
FinishesWorth t m (f ∷ fs) from to w = (mid : Position) × (a : ℕ) × (b : ℕ)
    × FinishesWorth t m fs from mid a × ReadsWorth t m f mid to b × (a + b ≤ w)
