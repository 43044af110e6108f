-- What a state of the decoder still has to read, said by values and never by a run.
use Rattle.std.specs.Prelude.{◌≡◌, ℕ, suc, ◌+◌, ◌-◌, ◌*◌, ◌%◌, ◌<◌, ◌≤◌, ◌⊎◌, ◌↔◌, List, [], ◌∷◌, length}
use Rattle.std.specs.Prelude.{slice_index}
use Rattle.std.specs.Prelude.{Option, Some, None}
use Rattle.fidl_limits.specs.declared.limits.TheConstants.{MAX_DEPTH, MAX_NEST, MAX_MESSAGE_HANDLES}
use Rattle.fidl_wire.specs.Term as ty
use Rattle.fidl_wire.specs.Term.{Term, resolve}
use Rattle.fidl_wire.specs.Figure.{Declarations, figure_of}
use Rattle.fidl_table_format.specs.declared.kind.EntryKind.TheVariants.{Table}
use Rattle.fidl_table_format.specs.declared.record.Entry.{Entry}
use Rattle.fidl_table_format.specs.declared.record.Row as raw
use Rattle.fidl_table_format.specs.Kind.{kind_of}
use Rattle.fidl_table_format.specs.Section.{header_of, entry_at}
use Rattle.fidl_table_format.specs.Terms.{declarations_of, members_of}
use Rattle.fidl_decode_model.specs.declared.fault.DecodeFault.{DecodeFault}
use Rattle.fidl_decode_model.specs.declared.fault.DecodeFault.TheVariants.{BytesLeft, HandlesLeft}
use Rattle.fidl_decode_model.specs.declared.fault.DecodeFault.TheVariants.{WrongCounts}
use Rattle.fidl_decode_model.specs.declared.frame.Frame.{Frame}
use Rattle.fidl_decode_model.specs.declared.frame.Remaining.{Remaining}
use Rattle.fidl_decode_model.specs.declared.frame.Remaining.TheVariants.{Rows, Elements, Envelopes}
use Rattle.fidl_decode_model.specs.declared.frame.Remaining.TheVariants.{Content}
use Rattle.fidl_decode_model.specs.declared.frame.Turn.{Turn}
use Rattle.fidl_decode_model.specs.declared.frame.State.{State}
use Rattle.fidl_decode_model.specs.Rows.{Row, table_rows, element_rows, RowsRise}
use Rattle.fidl_decode_model.specs.Breaks.{Part, Breaks, BreaksParts, BreaksEnvelopes}
use Rattle.fidl_decode_model.specs.Breaks.{BreaksMember}
use Rattle.fidl_decode_model.specs.Envelopes.{Contained, IsUntil}
use Rattle.fidl_decode_model.specs.State.{Message, Position, ValueAt, Members, Slots}
use Rattle.fidl_decode_model.specs.Worth.{ValueWorth, ContainedWorth, ReadsWorth, WorthIf}
use Rattle.fidl_decode_model.specs.Frontier.{IsAhead, CanRead, IsEven, IsClear, Moves}

-- the rows that a frame has left; envelopes are no rows
abbrev pub rows_left : List ℕ → (done : ℕ) → Remaining → List Row
rows_left t done (Rows first count) = table_rows t (header_of t) first count
rows_left t done (Elements entry size count) = element_rows entry size count done
rows_left t done (Content entry size count until) = element_rows entry size count done
rows_left t done (Envelopes entry read count) = []

-- the rows of a frame, behind what is read of it
abbrev pub ReadsRows : List ℕ → Message → Frame → List Row → Position → Position → Type 0
ReadsRows t m f rs from to = Members (declarations_of t) m f.depth f.size f.base f.done rs from to

-- what a frame still has to read, where this is left of it
abbrev pub ReadsLeft : List ℕ → Message → Frame → Remaining → Position → Position → Type 0
ReadsLeft t m f (Rows first count) from to =
    ReadsRows t m f (rows_left t f.done (Rows first count)) from to
ReadsLeft t m f (Elements entry size count) from to =
    ReadsRows t m f (rows_left t f.done (Elements entry size count)) from to
ReadsLeft t m f (Envelopes entry read count) from to =
    Slots (declarations_of t) m f.depth (members_of t entry) read (read + count) f.base from to
ReadsLeft t m f (Content entry size count until) from to =
    ReadsRows t m f (element_rows entry size count f.done) from to × IsUntil until to

-- what is left are rows alone
abbrev pub IsPlain : Remaining → Type 0
IsPlain (Rows first count) = Unit {0}
IsPlain (Elements entry size count) = Unit {0}
IsPlain (Envelopes entry read count) = ⊥
IsPlain (Content entry size count until) = ⊥

-- what a frame still has to read
abbrev pub Reads : List ℕ → Message → Frame → Position → Position → Type 0
Reads t m f from to = ReadsLeft t m f f.left from to

-- the same where there may be none
abbrev pub ReadsIf : List ℕ → Message → Option Frame → Position → Position → Type 0
ReadsIf t m None from to = from ≡ to
ReadsIf t m (Some f) from to = Reads t m f from to

-- what a stack of frames still has to read, the last frame first
abbrev pub Finishes : List ℕ → Message → List Frame → Position → Position → Type 0
Finishes t m [] from to = from ≡ to
Finishes t m (f ∷ fs) from to = (mid : Position) × Finishes t m fs from mid × Reads t m f mid to

-- rows as parts of an object
abbrev pub row_parts : List Row → List Part
row_parts [] = []
row_parts (r ∷ rs) = record { offset = r.offset; term = ty.named r.entry } ∷ row_parts rs

-- rows of a frame break a rule
abbrev pub BreaksRows : List ℕ → Message → Frame → List Row → Position → DecodeFault → Type 0
BreaksRows t m f rs from fault =
    BreaksParts (declarations_of t) m f.depth f.size f.base f.done (row_parts rs) from fault

-- what a frame still has to read breaks a rule, where this is left of it: content also by an end
-- that its envelope does not count up to
abbrev pub BreaksLeft : List ℕ → Message → Frame → Remaining → Position → DecodeFault → Type 0
BreaksLeft t m f (Rows first count) from fault =
    BreaksRows t m f (rows_left t f.done (Rows first count)) from fault
BreaksLeft t m f (Elements entry size count) from fault =
    BreaksRows t m f (rows_left t f.done (Elements entry size count)) from fault
BreaksLeft t m f (Envelopes entry read count) from fault =
    BreaksEnvelopes (declarations_of t) m f.depth (members_of t entry) (suc read) (read + count)
    f.base from fault
BreaksLeft t m f (Content entry size count until) from fault =
    BreaksRows t m f (element_rows entry size count f.done) from fault
    ⊎ ((to : Position) × ReadsRows t m f (element_rows entry size count f.done) from to
    × (¬ IsUntil until to) × (fault ≡ WrongCounts until.envelope))

-- what a frame still has to read breaks a rule
abbrev pub BreaksFrame : List ℕ → Message → Frame → Position → DecodeFault → Type 0
BreaksFrame t m f from fault = BreaksLeft t m f f.left from fault

-- the same where there may be none
abbrev pub BreaksIf : List ℕ → Message → Option Frame → Position → DecodeFault → Type 0
BreaksIf t m None from fault = ⊥
BreaksIf t m (Some f) from fault = BreaksFrame t m f from fault

-- what is left after a turn breaks a rule: what is below, or, behind that, the rest
abbrev pub BreaksAfter : List ℕ → Message → Turn → Position → DecodeFault → Type 0
BreaksAfter t m x from fault = BreaksIf t m x.below from fault
    ⊎ ((mid : Position) × ReadsIf t m x.below from mid × BreaksIf t m x.rest mid fault)

-- what a stack of frames still has to read breaks a rule
abbrev pub BreaksStack : List ℕ → Message → List Frame → Position → DecodeFault → Type 0
BreaksStack t m [] from fault = ⊥
BreaksStack t m (f ∷ fs) from fault = BreaksStack t m fs from fault
    ⊎ ((mid : Position) × Finishes t m fs from mid × BreaksFrame t m f mid fault)

-- the greatest nest of a frame: that of a vector, and of an envelope's content, is one more than
-- what it holds has
abbrev pub most_nest : ℕ
most_nest = MAX_NEST + 1

-- how deep something lies, by depth, by whether it is in the four bytes of an envelope, and by nest
abbrev pub level : (depth in_envelope nest : ℕ) → ℕ
level depth in_envelope nest = (2 * depth + in_envelope) * most_nest + (most_nest - nest)

-- how deep a frame lies
abbrev pub height : Frame → ℕ
height f = level f.depth f.in_envelope f.nest

-- a struct's rows that are left lie in the table; elements have their size; envelopes are those of a
-- table
abbrev pub LeftFine : List ℕ → Remaining → Type 0
LeftFine t (Rows first count) = first + count ≤ (header_of t).rows
LeftFine t (Elements entry size count) =
    (figure_of (declarations_of t).figures (ty.named entry)).size ≡ size
LeftFine t (Content entry size count until) =
    (figure_of (declarations_of t).figures (ty.named entry)).size ≡ size
LeftFine t (Envelopes entry read count) = (entry < (header_of t).entries)
    × (kind_of (entry_at t entry).kind ≡ Some Table)

-- envelopes have eight bytes each
abbrev pub EnvelopesFit : Frame → Remaining → Type 0
EnvelopesFit f (Envelopes entry read count) = (f.done ≡ 8 * read) × (f.size ≡ 8 * (read + count))
    × (f.nest ≡ most_nest) × (f.in_envelope ≡ 0)
EnvelopesFit f left = Unit {0}

-- a frame lies in the four bytes of an envelope, or outside of such
abbrev pub IsInside : (in_envelope size : ℕ) → Type 0
IsInside in_envelope size = (in_envelope ≡ 0) ⊎ ((in_envelope ≡ 1) × (size ≤ 4))

pub record FrameFine (t : List ℕ) (m : List ℕ) (f : Frame) : Type 0 where
  pub left : LeftFine t f.left
  pub slots : EnvelopesFit f f.left
  pub room : f.base + f.size ≤ length m
  pub some : 0 < f.nest
  pub nest : f.nest ≤ most_nest
  pub depth : f.depth ≤ MAX_DEPTH
  pub in_envelope : IsInside f.in_envelope f.size
  pub rise : RowsRise (declarations_of t) (header_of t).entries f.nest f.size f.done
      (rows_left t f.done f.left)

-- a frame, if any, is fine, and lies at least so deep
abbrev pub FineIf : List ℕ → List ℕ → ℕ → Option Frame → Type 0
FineIf t m h None = Unit {0}
FineIf t m h (Some f) = FrameFine t m f × (h ≤ height f)

-- each frame is fine, and lies at least as deep as its place in the stack
abbrev pub StackFine : List ℕ → List ℕ → ℕ → List Frame → Type 0
StackFine t m k [] = Unit {0}
StackFine t m k (f ∷ fs) = FrameFine t m f × (k ≤ height f) × StackFine t m (suc k) fs

-- the probes of a search among at most 65,535 rows or values, with a look before it
abbrev pub probes : ℕ
probes = 17

-- the work that one byte inline may make at most, in a frame of this nest: two turns for each nest,
-- two more, and a search; with six more, an envelope pays for the four bytes in it
abbrev pub inline_work : (nest : ℕ) → ℕ
inline_work nest = 2 * nest + 8 + probes

-- the work that a frame may still make: one turn to end it, and that of its bytes
abbrev pub frame_work : Frame → ℕ
frame_work f = inline_work f.nest * (f.size - f.done) + 1

-- the work that the four bytes of an envelope may make
abbrev pub envelope_work : ℕ
envelope_work = inline_work most_nest * 4 + 1

abbrev pub frame_work_if : Option Frame → ℕ
frame_work_if None = 0
frame_work_if (Some f) = frame_work f

abbrev pub stack_work : List Frame → ℕ
stack_work [] = 0
stack_work (f ∷ fs) = frame_work f + stack_work fs

-- the work that one byte out of line may still make: that of a byte inline at the greatest nest,
-- and the turns of an object
abbrev pub byte_work : ℕ
byte_work = inline_work most_nest + 4

-- with what the bytes out of line may still make
abbrev pub work : List ℕ → List Frame → ℕ → ℕ
work m fs next = byte_work * (length m - next) + stack_work fs

-- a frame's, with what the bytes out of line may still make
abbrev pub turn_work : List ℕ → (next : ℕ) → Frame → ℕ
turn_work m next f = byte_work * (length m - next) + frame_work f

-- that of a value of an entry, with what the bytes out of line may still make
abbrev pub value_work : List ℕ → (next : ℕ) → Entry → ℕ
value_work m next d = byte_work * (length m - next) + (inline_work d.nest * d.size + 1)

-- the state stands within the message, which has not too many handles
pub record StateFine (m : Message) (s : Position) : Type 0 where
  pub next : s.next ≤ length m.bytes
  pub handle : s.handle ≤ length m.handles
  pub few : length m.handles ≤ MAX_MESSAGE_HANDLES

-- a value of a leaf stands at a place exactly where it leads to this state
abbrev pub Leads : Declarations → Message → (held : ℕ) → Term → (place : ℕ) → Position → Position
    → Type 0
Leads ds m held t place old new = (to : Position) → ValueAt ds m held t place old to ↔ (new ≡ to)

-- a visit of an entry at a place, in so many steps, gives what of it is left to read, if any, and
-- the state then
pub record Visits (t : List ℕ) (m : Message) (held e place : ℕ) (old new : Position) (spent : ℕ)
    (found : Option Frame) : Type 0 where
  pub same : (to : Position)
      → ValueAt (declarations_of t) m held (resolve (declarations_of t).terms (ty.named e)) place
      old to ↔ ReadsIf t m found new to
  pub breaks : (fault : DecodeFault) → BreaksIf t m found new fault
      → Breaks (declarations_of t) m held (resolve (declarations_of t).terms (ty.named e)) place old
      fault
  pub least : (to : Position) (w : ℕ) → WorthIf t m found new to w
      → ValueWorth (declarations_of t) m held (resolve (declarations_of t).terms (ty.named e)) place
      old to (w + spent + 1)
  pub state : StateFine m new
  pub moves : let f = figure_of (declarations_of t).figures (ty.named e) in
      IsAhead m old → CanRead old place f.size → IsEven (declarations_of t) (ty.named e) place
      → Moves t m place (place + f.size) old new found None
  pub less : let f = figure_of (declarations_of t).figures (ty.named e) in
      byte_work * (length m.bytes - new.next) + frame_work_if found + spent
      ≤ byte_work * (length m.bytes - old.next) + inline_work f.nest * f.size + 1

-- what a visit of an entry leaves to read is fine, and lies no less deep than the entry
abbrev pub VisitFine : List ℕ → Message → (held in_envelope e : ℕ) → Option Frame → Type 0
VisitFine t m held in_envelope e found =
    FineIf t m.bytes
    (level held in_envelope (figure_of (declarations_of t).figures (ty.named e)).nest) found

-- the type of a member that has this row, if any
abbrev pub member_term : Option raw.Row → Option Term
member_term None = None
member_term (Some row) = Some (ty.named row.entry)

-- an envelope at a place is opened, in so many steps: what of its member is left to read, if any,
-- and the state then
pub record Opens (t : List ℕ) (m : Message) (held : ℕ) (member : Option Term) (envelope : ℕ)
    (old new : Position) (spent : ℕ) (found : Option Frame) : Type 0 where
  pub same : (to : Position) → Contained (declarations_of t) m held member envelope old to
      ↔ ReadsIf t m found new to
  pub breaks : (fault : DecodeFault) → BreaksIf t m found new fault
      → BreaksMember (declarations_of t) m held member envelope old fault
  pub least : (to : Position) (w : ℕ) → WorthIf t m found new to w
      → ContainedWorth (declarations_of t) m held member envelope old to (w + spent + 1)
  pub state : StateFine m new
  pub fine : FineIf t m.bytes (level held 1 most_nest) found
  pub moves : IsAhead m old → CanRead old envelope 8 → envelope % 8 ≡ 0
      → Moves t m envelope (envelope + 8) old new found None
  pub less : byte_work * (length m.bytes - new.next) + frame_work_if found
      ≤ byte_work * (length m.bytes - old.next) + envelope_work

-- what a member spent, and may still spend, is within the work of what it has read out of line and
-- of its envelope
abbrev pub PaysEnvelope : List ℕ → (next after spent : ℕ) → Option Frame → Type 0
PaysEnvelope m next after spent found =
    byte_work * (length m - after) + frame_work_if found + spent
    ≤ byte_work * (length m - next) + envelope_work

-- a turn on a frame: what is left of it, what is to be read before that, and the state then
pub record Turns (t : List ℕ) (m : Message) (f : Frame) (old new : Position) (spent : ℕ)
    (x : Turn) : Type 0 where
  pub same : (to : Position) → Reads t m f old to
      ↔ ((mid : Position) × ReadsIf t m x.below new mid × ReadsIf t m x.rest mid to)
  pub breaks : (fault : DecodeFault) → BreaksAfter t m x new fault → BreaksFrame t m f old fault
  pub least : (to mid : Position) (a b : ℕ) → WorthIf t m x.below new mid a
      → WorthIf t m x.rest mid to b → ReadsWorth t m f old to (a + b + spent)
  pub state : StateFine m new
  pub moves : IsAhead m old → IsClear t old f
      → Moves t m (f.base + f.done) (f.base + f.size) old new x.below x.rest
  pub below_fine : FineIf t m.bytes (height f + 1) x.below
  pub rest_fine : FineIf t m.bytes (height f) x.rest
  pub less : byte_work * (length m.bytes - new.next) + frame_work_if x.below + frame_work_if x.rest
      + spent ≤ byte_work * (length m.bytes - old.next) + frame_work f

-- a frame with so many rows left, from the first on, and so many of its bytes read
abbrev pub behind_rows : Frame → (first count done : ℕ) → Frame
behind_rows f first count done =
    record {
      left = Rows first count;
      base = f.base;
      done = done;
      size = f.size;
      nest = f.nest;
      depth = f.depth;
      in_envelope = f.in_envelope;
    }

-- a frame with so many envelopes left of a value of an entry, behind those that are read, and so
-- many of its bytes read
abbrev pub behind_envelopes : Frame → (entry read count done : ℕ) → Frame
behind_envelopes f entry read count done =
    record {
      left = Envelopes entry read count;
      base = f.base;
      done = done;
      size = f.size;
      nest = f.nest;
      depth = f.depth;
      in_envelope = f.in_envelope;
    }

-- the bool so far behind a struct's start, if there is one, is 0 or 1
abbrev pub IsGood : List ℕ → (base : ℕ) → (flag : Option ℕ) → Type 0
IsGood m base None = Unit {0}
IsGood m base (Some k) = slice_index m (base + k) ≤ 1

-- wherever a struct with these rows stands, and this bool of it, if any, is 0 or 1, so many of its
-- rows are a turn that reads so many of its bytes and nothing out of line, and leaves the rows from
-- the first on
abbrev pub Passes : List ℕ → Message → Remaining → (rows first count done : ℕ)
    → (flag : Option ℕ) → Type 0
Passes t m left rows first count done flag =
    (f : Frame) → (s : Position) → FrameFine t m.bytes f → f.left ≡ left → f.done ≡ 0
    → StateFine m s → IsGood m.bytes f.base flag
    → Turns t m f s s rows (record { below = None; rest = Some (behind_rows f first count done) })

-- the same of the rows of a struct that end where these do
abbrev pub IsKnown : List ℕ → Message → (rows first count done : ℕ) → (flag : Option ℕ) → Type 0
IsKnown t m rows first count done flag =
    Passes t m (Rows (first - rows) (rows + count)) rows first count done flag

-- the whole message is read
pub record IsWhole (m : Message) (s : Position) : Type 0 where
  pub bytes : s.next ≡ length m.bytes
  pub handles : s.handle ≡ length m.handles

-- why a stack of frames is not read to the message's end: it breaks a rule, or the frames end
-- before bytes or handles do
abbrev pub IsStopped : List ℕ → Message → List Frame → Position → DecodeFault → Type 0
IsStopped t m fs from (BytesLeft at) = (at < length m.bytes)
    × ((to : Position) × Finishes t m fs from to × StateFine m to × (to.next ≡ at))
IsStopped t m fs from (HandlesLeft at) = (at ≡ length m.bytes)
    × ((to : Position) × Finishes t m fs from to × (to.next ≡ length m.bytes)
    × (to.handle < length m.handles))
IsStopped t m fs from fault = BreaksStack t m fs from fault

-- how far a state has read, and what it has linked
abbrev pub at_of : State → Position
at_of s =
    record {
      next = s.next;
      handle = s.handle;
      objects = s.links.objects;
      records =
          s.links.records;
    }
