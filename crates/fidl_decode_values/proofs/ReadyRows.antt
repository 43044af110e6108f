-- What is left of a frame can be read after turns, and so can the next of its rows, and the zeros before and behind it.
use Rattle.std.proofs.Common.{◌≡◌, ℕ, ◌+◌, ◌-◌, ◌<◌, ◌≤◌, List, ◌∷◌, length, get_or, inl, inr, refl, sym, ap, subst, ◌∙◌, arith}
use Rattle.std.proofs.Math.ListN.{get_or-eq_default}
use Rattle.std.proofs.lemmas.Bool.{cases_lt}
use Rattle.fidl_limits.specs.declared.limits.TheConstants.{MAX_DEPTH}
use Rattle.std.specs.Prelude.{Option, Some, None, IfSome}
use Rattle.fidl_wire.specs.Term as ty
use Rattle.fidl_wire.specs.Figure.{Declarations, Figure, figure_of, size_of, figure}
use Rattle.fidl_table_format.specs.declared.record.Row as raw
use Rattle.fidl_table_format.specs.declared.kind.EntryKind.TheVariants.{Box, Struct}
use Rattle.fidl_table_format.specs.Kind.{kind_of}
use Rattle.fidl_table_format.specs.Section.{header_of, entry_at, row_at}
use Rattle.fidl_table_format.specs.Terms.{declarations_of}
use Rattle.fidl_decode_model.specs.declared.frame.Frame.{Frame}
use Rattle.fidl_decode_model.specs.declared.frame.Remaining.{Remaining}
use Rattle.fidl_decode_model.specs.declared.frame.Remaining.TheVariants.{Rows, Elements, Envelopes, Content}
use Rattle.fidl_decode_model.specs.Invariants.{IsFine}
use Rattle.fidl_decode_model.specs.Rows.{Row, table_rows}
use Rattle.fidl_decode_model.specs.State.{Message, Position}
use Rattle.fidl_decode_model.specs.Frontier.{AreFree, RowsEven}
use Rattle.fidl_decode_model.specs.Machine.{rows_left, StateFine, FrameFine, EnvelopesFit, IsPlain, Turns, Passes, behind_rows}
use Rattle.fidl_decode_model.proofs.Stated.{stated, table_rows-more}
use Rattle.fidl_decode_model.proofs.Visiting.{figure_is}
use Rattle.fidl_decode_model.proofs.Holding.{struct_frame, visits_struct}
use Rattle.fidl_decode_model.proofs.Evenly.{plain_even}
use Rattle.fidl_decode_model.proofs.Turning.{done_fits, row_fine, row_room}
use Rattle.fidl_decode_columns.proofs.Leaves.{going_on, same_frame, left_over, turns_start, elements_next}
use Rattle.fidl_decode_values.specs.Ready.{PlaceReady, ValueReady, FrameReady}

-- what is left
pub rest_ready : (t : List ℕ) (m : Message) (f : Frame) (old now : Position) (a : ℕ) (g : Frame) → Turns t m f old now a (left_over (Some g)) → FrameReady t m old f → FrameReady t m now g
rest_ready t m f old now a g turns ready = let p = turns.moves ready.0 ready.1 in (p.ahead, p.rest_clear)

module _ (t : List ℕ) (fine : IsFine t) (m : Message) (f : Frame) (old now : Position) (a : ℕ) (g : Frame) (turns : Turns t m f old now a (left_over (Some g))) (ready : FrameReady t m old f) where
  abbrev ds : Declarations
  ds = declarations_of t

  -- zeros to the end
  pub over_free : AreFree now (g.base + g.done) (g.base + g.size)
  over_free = (rest_ready t m f old now a g turns ready).1.free

  -- a row is next
  module _ (r : Row) (left : Remaining) (one : rows_left t g.done g.left ≡ r ∷ rows_left t (r.offset + size_of ds (ty.named r.entry)) left) where
    pub next_free : AreFree now (g.base + g.done) (g.base + r.offset)
    next_free =
        let on = rest_ready t m f old now a g turns ready in
        let fits = row_room t fine m g now turns.rest_fine.0 turns.state r left one in
        λ k x y. on.1.free k x (omega (arith, y, fits))

    pub next_ready : IsPlain g.left → ValueReady t m now r.entry (g.base + r.offset)
    next_ready plain =
        let on = rest_ready t m f old now a g turns ready in
        let known = row_fine t fine m g now turns.rest_fine.0 turns.state r left one in
        let fits = row_room t fine m g now turns.rest_fine.0 turns.state r left one in
        let rows = subst (λ (rs : List Row). RowsEven ds g.base rs) one (plain_even t g g.left plain on.1.even) in
        let before = on.1.before in (
          on.0,
          record { before = omega (arith, before, fits); free = λ k x y. on.1.free k (omega (arith, x, known.1)) (omega (arith, y, fits)) },
          rows.0,
        )

-- the first row of a struct that is left
module _ (t : List ℕ) (fine : IsFine t) (m : Message) (f : Frame) (first count : ℕ) (w : raw.Row) (rows : f.left ≡ Rows first count) (some : 0 < count) (is : w ≡ row_at t (header_of t) first) (old : Position) (ff : FrameFine t m.bytes f) (state : StateFine m old) where
  abbrev g : Frame
  g = going_on f (Rows first count) f.done

  start : Turns t m f old old 0 (left_over (Some g))
  start = turns_start t m f old ff state g (same_frame f (Rows first count) rows)

  abbrev r : Row
  r = record { offset = w.key; entry = w.entry }

  abbrev left : Remaining
  left = Rows (first + 1) (count - 1)

  one : rows_left t f.done (Rows first count) ≡ r ∷ rows_left t (r.offset + size_of (declarations_of t) (ty.named r.entry)) left
  one = table_rows-more t first count (λ none. absurd (omega (arith, some, none)))
      ∙ ap (λ (w : raw.Row). (let x : Row = record { offset = w.key; entry = w.entry } in x) ∷ table_rows t (header_of t) (first + 1) (count - 1)) (sym is)

  pub first_free : FrameReady t m old f → AreFree old (f.base + f.done) (f.base + w.key)
  first_free ready = next_free t fine m f old old 0 g start ready r left one

  pub first_ready : FrameReady t m old f → ValueReady t m old w.entry (f.base + w.key)
  first_ready ready = next_ready t fine m f old old 0 g start ready r left one tt

-- an element is next
pub element_ready : (t : List ℕ) (fine : IsFine t) (m : Message) (f : Frame) (old now : Position) (a e size count i done : ℕ) → Turns t m f old now a (left_over (Some (going_on f (Elements e size (count - i)) done)))
    → FrameReady t m old f → i < count → ValueReady t m now e (f.base + done)
element_ready t fine m f old now a e size count i done turns ready before =
    let one = elements_next t e size i count done turns.rest_fine.0.left before in
    next_ready t fine m f old now a (going_on f (Elements e size (count - i)) done) turns ready (let x : Row = record { offset = done; entry = e } in x) (Elements e size (count - (i + 1))) one tt

-- the marker of a box
pub box_ready : (t : List ℕ) (fine : IsFine t) (m : Message) (s : Position) (e place : ℕ) → e < (header_of t).entries → kind_of (entry_at t e).kind ≡ Some Box → ValueReady t m s e place → PlaceReady m s place 8 8
box_ready t fine m s e place lt is ready =
    let own : figure_of (declarations_of t).figures (ty.named e) ≡ figure 8 8 0 = stated t e lt ∙ sym (figure_is t fine e Box lt is) in
    subst (λ (g : Figure). PlaceReady m s place g.size g.align) own ready

-- the frame of a struct
pub struct_ready : (t : List ℕ) (fine : IsFine t) (m : Message) (held e place : ℕ) (old : Position) → e < (header_of t).entries → StateFine m old → held ≤ MAX_DEPTH → (inside : ℕ)
    → kind_of (entry_at t e).kind ≡ Some Struct → place + (entry_at t e).size ≤ length m.bytes → ValueReady t m old e place → FrameReady t m old (struct_frame (entry_at t e) place held inside)
struct_ready t fine m held e place old lt state deep inside is room ready =
    let p = (visits_struct t fine m held e place old lt state deep inside 0 refl is room).moves ready.0 ready.1 ready.2 in (p.ahead, p.below_clear)

-- ---- the bool among the first rows of a struct

slots_at : (f : Frame) (base : ℕ) (left : Remaining) → EnvelopesFit f left → EnvelopesFit (record { left = f.left; base = base; done = f.done; size = f.size; nest = f.nest; depth = f.depth; in_envelope = f.in_envelope }) left
slots_at f base (Rows first count) fit = tt
slots_at f base (Elements entry size count) fit = tt
slots_at f base (Envelopes entry read count) fit = fit
slots_at f base (Content entry size count until) fit = tt

module _ (t : List ℕ) (fine : IsFine t) (m : Message) (f : Frame) (s : Position) (ff : FrameFine t m.bytes f) (start : f.done ≡ 0) (state : StateFine m s) (rows first count done : ℕ) where
  -- it lies within the struct: one behind it would be right in a struct that ends the message
  within : (k : ℕ) → Passes t m f.left rows first count done (Some k) → k < done → k < f.size
  within k passes inside = elim (cases_lt k f.size) [
    | inl lt ↦ lt
    | inr le ↦
        let room = ff.room in
        let base = length m.bytes - f.size in
        let g : Frame = record { left = f.left; base = base; done = f.done; size = f.size; nest = f.nest; depth = f.depth; in_envelope = f.in_envelope } in
        let gf : FrameFine t m.bytes g = record { left = ff.left; slots = slots_at f base f.left ff.slots; room = omega (arith, room); some = ff.some; nest = ff.nest; depth = ff.depth; in_envelope = ff.in_envelope; rise = ff.rise } in
        let good : get_or m.bytes (base + k) 0 ≡ 0 = get_or-eq_default m.bytes 0 (omega (arith, room, le)) in
        let turns = passes g s gf refl start state (omega (arith, good)) in
        let fits = done_fits t fine m (behind_rows g first count done) s turns.rest_fine.0 turns.state in
        omega (arith, inside, fits)
  ]

  pub flag_free : (flag : Option ℕ) → Passes t m f.left rows first count done flag → IfSome flag (λ k. k < done) → FrameReady t m s f → IfSome flag (λ k. AreFree s (f.base + k) (f.base + k + 1))
  flag_free None passes inside ready = tt
  flag_free (Some k) passes inside ready =
      let lt = within k passes inside in
      λ i x y. ready.1.free i (omega (arith, x, start)) (omega (arith, y, lt))
