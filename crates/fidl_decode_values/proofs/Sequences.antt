-- Arrays and vectors of numbers, which are read where they stand.
use Rattle.std.proofs.Common.{◌≡◌, ℕ, ◌+◌, ◌-◌, ◌*◌, ◌<◌, ◌≤◌, List, length, get_or, refl, sym, ap, subst, ◌∙◌, arith, inl, inr}
use Rattle.std.specs.Prelude.{Option, Some, None, true, false, ◌⊎◌}
use Rattle.std.specs.Option.{option_map_or}
use Rattle.fidl_limits.specs.declared.limits.TheConstants.{MAX_DEPTH}
use Rattle.fidl_wire.specs.Figure.{Figure, figure_of}
use Rattle.fidl_wire.specs.Term as ty
use Rattle.fidl_table_format.specs.declared.record.Entry.{Entry}
use Rattle.fidl_table_format.specs.declared.kind.EntryKind.{EntryKind}
use Rattle.fidl_table_format.specs.declared.kind.EntryKind.TheVariants.{Bool as Boolean, Bits, Enum, Handle, String, Vector, Array, Box, Struct, Table, Union, Int8, Int16, Int32, Int64, Uint8, Uint16, Uint32, Uint64}
use Rattle.fidl_table_format.specs.Kind.{kind_of}
use Rattle.fidl_table_format.specs.Section.{header_of, entry_at}
use Rattle.fidl_table_format.specs.Terms.{declarations_of}
use Rattle.fidl_decode_model.specs.Invariants.{IsFine, is_free, is_free_at, is_leaf}
use Rattle.fidl_decode_model.specs.declared.frame.Frame.{Frame}
use Rattle.fidl_decode_model.specs.declared.frame.Remaining.TheVariants.{Elements}
use Rattle.fidl_decode_model.specs.State.{Message, Position}
use Rattle.fidl_wire.specs.Encoding.{zeros}
use Rattle.fidl_wire.specs.Standing.{Stands}
use Rattle.fidl_decode_model.specs.declared.fault.DecodeFault.{DecodeFault}
use Rattle.fidl_decode_model.specs.Breaks.{IsPadding}
use Rattle.fidl_decode_model.specs.Machine.{StateFine, FrameFine, Visits, Turns, BreaksFrame, IsPlain, rows_left}
use Rattle.fidl_decode_values.proofs.Unchanged.{no_true}
use Rattle.fidl_decode_model.proofs.Visiting.{size_is, figure_is, fine_as}
use Rattle.fidl_decode_model.proofs.Holding.{array_frame, visits_array, array_fine}
use Rattle.fidl_decode_columns.proofs.Leaves.{going_on, left_over, free_turns, over_turns, over_breaks, over_room, no_zeros, turns_stay}
use Rattle.fidl_decode_columns.proofs.Wholly.{visits_over}

-- an entry that any bytes are a value of has a kind of which this holds
pub free_kind : (e : Entry) (o : Option EntryKind) → option_map_or (λ (k : EntryKind). is_free k e) o false ≡ true → (k : EntryKind) × (o ≡ Some k) × (is_free k e ≡ true)
free_kind e None is = absurd (no_true is)
free_kind e (Some k) is = (k, refl, is)

-- and one of such a kind is such an entry
pub kind_free : (t : List ℕ) (i : ℕ) (k : EntryKind) → kind_of (entry_at t i).kind ≡ Some k → is_free k (entry_at t i) ≡ true → is_free_at t i ≡ true
kind_free t i k is free = ap (λ (o : Option EntryKind). option_map_or (λ (k : EntryKind). is_free k (entry_at t i)) o false) is ∙ free

-- a leaf that is no bool, no bits, no enum, no handle, no string and no vector is a number, or an array of numbers
pub free_else : (t : List ℕ) (e : Entry) (k : EntryKind) → is_leaf t e k ≡ true → (k ≡ Boolean → ⊥) → (k ≡ Bits → ⊥) → (k ≡ Enum → ⊥) → (k ≡ Handle → ⊥) → (k ≡ String → ⊥) → (k ≡ Vector → ⊥)
    → (is_free k e ≡ true) ⊎ ((k ≡ Array) × (is_free_at t e.first ≡ true))
free_else t e Boolean leaf b i n l w v = absurd (b refl)
free_else t e Bits leaf b i n l w v = absurd (i refl)
free_else t e Enum leaf b i n l w v = absurd (n refl)
free_else t e Handle leaf b i n l w v = absurd (l refl)
free_else t e String leaf b i n l w v = absurd (w refl)
free_else t e Vector leaf b i n l w v = absurd (v refl)
free_else t e Array leaf b i n l w v = inr (refl, leaf)
free_else t e Int8 leaf b i n l w v = inl refl
free_else t e Int16 leaf b i n l w v = inl refl
free_else t e Int32 leaf b i n l w v = inl refl
free_else t e Int64 leaf b i n l w v = inl refl
free_else t e Uint8 leaf b i n l w v = inl refl
free_else t e Uint16 leaf b i n l w v = inl refl
free_else t e Uint32 leaf b i n l w v = inl refl
free_else t e Uint64 leaf b i n l w v = inl refl
free_else t e Box leaf b i n l w v = absurd (no_true leaf)
free_else t e Struct leaf b i n l w v = absurd (no_true leaf)
free_else t e Table leaf b i n l w v = absurd (no_true leaf)
free_else t e Union leaf b i n l w v = absurd (no_true leaf)

-- any bytes are an array of numbers
pub visits_numbers : (t : List ℕ) (fine : IsFine t) (m : Message) (held e place : ℕ) (old : Position) → e < (header_of t).entries → StateFine m old → held ≤ MAX_DEPTH → kind_of (entry_at t e).kind ≡ Some Array → is_free_at t (entry_at t e).first ≡ true
    → place + (entry_at t e).size ≤ length m.bytes → ((i : ℕ) → get_or m.bytes i 0 < 256) → Visits t m held e place old old 0 None
visits_numbers t fine m held e place old lt state deep is free room small =
    let d = entry_at t e in
    let each = (entry_at t d.first).size in
    let f = array_frame d each place held 0 in
    let inside = (fine_as t fine e Array lt is).content.0 in
    let ff = (array_fine t fine m held e place old lt state deep 0 each is refl room (inl refl)).0 in
    let start = visits_array t fine m held e place old lt state deep 0 each 0 refl is refl room in
    let k = free_kind (entry_at t d.first) (kind_of (entry_at t d.first).kind) free in
    let turns = free_turns t fine m f old ff state d.first each d.count refl k.0 k.1 k.2 small in
    let g = going_on f (Elements d.first each 0) (0 + each * d.count) in
    let one : (figure_of (declarations_of t).figures (ty.named d.first)).size ≡ each = size_is t fine d.first inside in
    let size : (figure_of (declarations_of t).figures (ty.named d.first)).size * d.count ≡ d.size = ap (λ (f : Figure). f.size) (figure_is t fine e Array lt is) in
    let whole : each * d.count ≡ d.size = (λ i. sym one i * d.count) ∙ size in
    let none : g.base + g.size - (g.base + g.done) ≡ 0 = omega (arith, whole) in
    visits_over t m held e place old old 0 f start old 0 0 (omega arith) (over_turns t fine m f old old 0 g turns refl tt 0 (omega arith) (omega arith) (no_zeros m.bytes (g.base + g.done) _ none))

-- elements that any bytes are values of, up to the zeros behind them
module _ (t : List ℕ) (fine : IsFine t) (m : Message) (f : Frame) (old : Position) (ff : FrameFine t m.bytes f) (state : StateFine m old) (e size count : ℕ) (is : f.left ≡ Elements e size count) (free : is_free_at t e ≡ true) (small : (i : ℕ) → get_or m.bytes i 0 < 256) where
  abbrev over : Frame
  over = going_on f (Elements e size 0) (f.done + size * count)

  turns : Turns t m f old old 0 (left_over (Some over))
  turns = let k = free_kind (entry_at t e) (kind_of (entry_at t e).kind) free in free_turns t fine m f old ff state e size count is k.0 k.1 k.2 small

  there : f.base + f.done + size * count ≡ f.base + (f.done + size * count)
  there = omega arith

  pub elements_room : (f.done + size * count ≤ f.size) × (f.base + f.size ≤ length m.bytes)
  elements_room = let room = over_room t fine m f old old 0 over turns in (room.0, room.1)

  pub elements_over : (n : ℕ) → n ≤ f.base + f.size - (f.base + f.done + size * count) + 1 → Stands m.bytes (f.base + f.done + size * count) (zeros (f.base + f.size - (f.base + f.done + size * count))) → Turns t m f old old n (left_over None)
  elements_over n le z = over_turns t fine m f old old 0 over turns refl tt n (omega arith) (omega (arith, there, le)) (subst (λ k. Stands m.bytes k (zeros (f.base + f.size - k))) there z)

  pub elements_break : (fault : DecodeFault) → IsPadding m.bytes (f.base + f.done + size * count) (f.base + f.size) fault → BreaksFrame t m f old fault
  elements_break fault p = over_breaks t fine m f old old 0 over turns refl tt fault (subst (λ k. IsPadding m.bytes k (f.base + f.size) fault) there p)

-- nothing is left of a vector without elements
pub visits_no_elements : (t : List ℕ) (fine : IsFine t) (m : Message) (held e place : ℕ) (old mid : Position) (spent : ℕ) (f : Frame) → Visits t m held e place old mid spent (Some f) → FrameFine t m.bytes f → (inner size : ℕ) → f.left ≡ Elements inner size 0 → f.size ≡ f.done
    → Visits t m held e place old mid spent None
visits_no_elements t fine m held e place old mid spent f v ff inner size is whole =
    let stay = turns_stay t m f mid ff v.state 0 refl in
    let zeros = no_zeros m.bytes (f.base + f.done) _ (omega (arith, whole)) in
    visits_over t m held e place old mid spent f v mid 0 spent (omega arith) (over_turns t fine m f mid mid 0 f stay (ap (rows_left t f.done) is) (subst IsPlain (sym is) tt) 0 (omega arith) (omega arith) zeros)
