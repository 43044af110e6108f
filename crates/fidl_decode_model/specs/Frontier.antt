-- Where links can stand while a message is read: nowhere in what is still to be read
-- (docs/decoding.md, "Links").
use Rattle.std.specs.Prelude.{◌≡◌, ◌⊎◌, ℕ, ◌+◌, ◌*◌, ◌%◌, ◌≤◌, List, [], ◌∷◌, length}
use Rattle.std.specs.Prelude.{slice_index, Option, Some, None}
use Rattle.fidl_wire.specs.Term as ty
use Rattle.fidl_wire.specs.Figure.{Declarations, figure_of}
use Rattle.fidl_table_format.specs.Terms.{declarations_of}
use Rattle.fidl_decode_model.specs.declared.frame.Frame.{Frame}
use Rattle.fidl_decode_model.specs.declared.frame.Remaining.{Remaining}
use Rattle.fidl_decode_model.specs.declared.frame.Remaining.TheVariants.{Rows, Elements, Envelopes}
use Rattle.fidl_decode_model.specs.declared.frame.Remaining.TheVariants.{Content}
use Rattle.fidl_table_format.specs.Section.{header_of}
use Rattle.fidl_decode_model.specs.Rows.{Row, table_rows, element_rows}
use Rattle.fidl_decode_model.specs.State.{Message, Position}
use Rattle.fidl_decode_model.specs.Placed.{links_of}
use Rattle.fidl_decode_model.specs.Readable.{IsUnlinked, AreUnlinked}

-- no link stands at a byte
abbrev pub IsFree : Position → (k : ℕ) → Type 0
IsFree s k = IsUnlinked (links_of s) k

-- none stands at the bytes from one place up to another
abbrev pub AreFree : Position → (from to : ℕ) → Type 0
AreFree s from to = AreUnlinked (links_of s) from to

-- n bytes at k are not all among those from one place up to another
abbrev pub IsOutside : (k n from to : ℕ) → Type 0
IsOutside k n from to = from ≤ k → k + n ≤ to → ⊥

-- from one state to another those cells stay whose bytes are not all in one of two ranges
pub record Stays (a b c d : ℕ) (s r : Position) : Type 0 where
  pub objects : (i : ℕ) → IsOutside (8 * i) 8 a b → IsOutside (8 * i) 8 c d
      → slice_index r.objects i ≡ slice_index s.objects i
  pub records : (j : ℕ) → IsOutside (4 * j) 4 a b → IsOutside (4 * j) 4 c d
      → slice_index r.records j ≡ slice_index s.records j
  pub grows : s.next ≤ r.next

-- the next object begins at a multiple of 8, and no link stands there or behind
pub record IsAhead (m : Message) (s : Position) : Type 0 where
  pub even : s.next % 8 ≡ 0
  pub free : AreFree s s.next (length m.bytes)

-- a value of the term can stand at a place: at a multiple of its alignment
abbrev pub IsEven : Declarations → ty.Term → (place : ℕ) → Type 0
IsEven ds t place = place % (figure_of ds.figures t).align ≡ 0

-- bytes from a place on can be read: they lie before the next object, and no link stands there
pub record CanRead (s : Position) (place size : ℕ) : Type 0 where
  pub before : place + size ≤ s.next
  pub free : AreFree s place (place + size)

-- each row of a holder at a base stands where a value of its entry can
abbrev pub RowsEven : Declarations → (base : ℕ) → List Row → Type 0
RowsEven ds base [] = Unit {0}
RowsEven ds base (r ∷ rs) = IsEven ds (ty.named r.entry) (base + r.offset) × RowsEven ds base rs

-- what is left of a frame stands where it can
abbrev pub LeftEven : List ℕ → Frame → Remaining → Type 0
LeftEven t f (Rows first count) =
    RowsEven (declarations_of t) f.base (table_rows t (header_of t) first count)
LeftEven t f (Elements entry size count) =
    RowsEven (declarations_of t) f.base (element_rows entry size count f.done)
LeftEven t f (Content entry size count until) =
    RowsEven (declarations_of t) f.base (element_rows entry size count f.done)
LeftEven t f (Envelopes entry read count) = f.base % 8 ≡ 0

-- what a frame still has to read can be read
pub record IsClear (t : List ℕ) (s : Position) (f : Frame) : Type 0 where
  pub before : f.base + f.size ≤ s.next
  pub free : AreFree s (f.base + f.done) (f.base + f.size)
  pub even : LeftEven t f f.left

-- the same where there may be none
abbrev pub ClearIf : List ℕ → Position → Option Frame → Type 0
ClearIf t s None = Unit {0}
ClearIf t s (Some f) = IsClear t s f

-- a frame has to read nothing but bytes of one of two ranges
abbrev pub IsIn : (a b c d : ℕ) → Frame → Type 0
IsIn a b c d f = ((a ≤ f.base + f.done) × (f.base + f.size ≤ b))
    ⊎ ((c ≤ f.base + f.done) × (f.base + f.size ≤ d))

abbrev pub InIf : (a b c d : ℕ) → Option Frame → Type 0
InIf a b c d None = Unit {0}
InIf a b c d (Some f) = IsIn a b c d f

-- no byte is to be read by two frames
abbrev pub AreApart : Frame → Frame → Type 0
AreApart f g = (f.base + f.size ≤ g.base + g.done) ⊎ (g.base + g.size ≤ f.base + f.done)

abbrev pub ApartIf : (below rest : Option Frame) → Type 0
ApartIf None rest = Unit {0}
ApartIf (Some f) None = Unit {0}
ApartIf (Some f) (Some g) = AreApart f g

-- what is read of the bytes from one place up to another: what is to be read then lies among those
-- bytes and the objects since, and no link stands there
pub record Moves (t : List ℕ) (m : Message) (a b : ℕ) (old new : Position)
    (below rest : Option Frame) : Type 0 where
  pub stays : Stays a b old.next new.next old new
  pub ahead : IsAhead m new
  pub below_clear : ClearIf t new below
  pub rest_clear : ClearIf t new rest
  pub below_in : InIf a b old.next new.next below
  pub rest_in : InIf a b old.next new.next rest
  pub apart : ApartIf below rest
