-- Elements of a vector or an array, of which those before one are read.
use Rattle.std.proofs.Common.{◌≡◌, ℕ, ◌+◌, ◌-◌, ◌*◌, ◌<◌, ◌≤◌, List, ◌∷◌, length, sym, ap, ◌∙◌, arith}
use Rattle.std.specs.Prelude.{Option, Some, None}
use Rattle.fidl_wire.specs.Encoding.{zeros}
use Rattle.fidl_wire.specs.Standing.{Stands}
use Rattle.fidl_wire.specs.Figure.{Figure, size_of}
use Rattle.fidl_wire.specs.Term as ty
use Rattle.fidl_wire.specs.Term.{resolve}
use Rattle.fidl_table_format.specs.Section.{header_of, entry_at}
use Rattle.fidl_table_format.specs.Terms.{declarations_of}
use Rattle.fidl_decode_model.specs.declared.fault.DecodeFault.{DecodeFault}
use Rattle.fidl_decode_model.specs.declared.frame.Frame.{Frame}
use Rattle.fidl_decode_model.specs.declared.frame.Remaining.{Remaining}
use Rattle.fidl_decode_model.specs.declared.frame.Remaining.TheVariants.{Elements}
use Rattle.fidl_decode_model.specs.Breaks.{IsPadding, Breaks}
use Rattle.fidl_decode_model.specs.Invariants.{IsFine}
use Rattle.fidl_decode_model.specs.Rows.{Row}
use Rattle.fidl_decode_model.specs.State.{Message, Position}
use Rattle.fidl_decode_model.specs.Machine.{IsInside, Visits, VisitFine, Turns, BreaksFrame, byte_work, inline_work, frame_work, frame_work_if, value_work, rows_left}
use Rattle.fidl_decode_model.proofs.Visiting.{nest_is, positive}
use Rattle.fidl_decode_model.proofs.Stated.{stated}
use Rattle.fidl_decode_model.proofs.Turning.{row_fine, row_room, row_inside, work_falls}
use Rattle.fidl_decode_columns.proofs.Leaves.{going_on, left_over, next_known, next_size, next_room, next_takes, next_leaf_breaks, over_room, over_turns, over_breaks, elements_next, elements_over, no_zeros}

module _ (t : List ℕ) (fine : IsFine t) (m : Message) (f : Frame) (old now : Position) (a e size count i done : ℕ) (turns : Turns t m f old now a (left_over (Some (going_on f (Elements e size (count - i)) done)))) where
  abbrev g : Frame
  g = going_on f (Elements e size (count - i)) done

  abbrev behind : Remaining
  behind = Elements e size (count - (i + 1))

  abbrev row : Row
  row = record { offset = done; entry = e }

  -- the bytes that are left lie within the message, and there is work for them
  pub items_room : (done ≤ f.size) × (f.base + f.size ≤ length m.bytes) × (f.size - done + 1 ≤ frame_work g)
  items_room = over_room t fine m f old now a g turns

  module _ (lt : i < count) where
    one : rows_left t done (Elements e size (count - i)) ≡ row ∷ rows_left t (done + size_of (declarations_of t) (ty.named e)) behind
    one = elements_next t e size i count done turns.rest_fine.0.left lt

    pub item_known : e < (header_of t).entries
    item_known = next_known t fine m f old now a g turns row behind one

    pub item_size : (entry_at t e).size ≡ size
    item_size = let own = next_size t fine m f old now a g turns row behind one in sym own ∙ turns.rest_fine.0.left

    pub item_room : (done + (entry_at t e).size ≤ f.size) × (f.base + done + (entry_at t e).size ≤ length m.bytes)
    item_room =
        let room = next_room t fine m f old now a g turns row behind one in
        let fits = room.1 in
        let within = room.2 in
        (fits, omega (arith, fits, within))

    pub item_inside : IsInside f.in_envelope (entry_at t e).size
    item_inside = row_inside t fine m g now turns.rest_fine.0 turns.state row behind one (entry_at t e).size (next_size t fine m f old now a g turns row behind one)

    -- the work of the element is within that of the frame
    pub item_work : inline_work (entry_at t e).nest * (entry_at t e).size + 2 ≤ frame_work g
    item_work =
        let own = row_fine t fine m g now turns.rest_fine.0 turns.state row behind one in
        let fits = row_room t fine m g now turns.rest_fine.0 turns.state row behind one in
        let is = next_size t fine m f old now a g turns row behind one in
        let nest = nest_is t fine e item_known in
        let pos = positive t fine e item_known in
        let falls = work_falls f.nest (entry_at t e).nest (entry_at t e).size 0 (f.size - done) 0 (omega (arith, own.2, nest)) (omega (arith, is, pos)) (omega (arith, fits, is)) in
        omega (arith, falls)

    nothing : f.base + done - (f.base + done) ≡ 0
    nothing = omega arith

    pub item_takes : (below : Option Frame) (new : Position) (spent n : ℕ) → n ≡ a + 1 + spent → Visits t m f.depth e (f.base + done) now new spent below → VisitFine t m f.depth f.in_envelope e below
        → Turns t m f old new n (record { below = below; rest = Some (going_on f behind (done + size)) })
    item_takes below new spent n le v vf =
        let is = item_size in
        next_takes t fine m f old now a g turns row behind one tt turns.rest_fine.0.left tt below new (done + size) spent n (omega (arith, is)) (omega (arith, le)) (omega (arith, le)) (no_zeros m.bytes (f.base + done) _ nothing) v vf

    pub item_breaks : (fault : DecodeFault) → Breaks (declarations_of t) m f.depth (resolve (declarations_of t).terms (ty.named e)) (f.base + done) now fault → BreaksFrame t m f old fault
    item_breaks fault b = next_leaf_breaks t fine m f old now a g turns row behind one tt fault (no_zeros m.bytes (f.base + done) _ nothing) b

  -- all elements are read: zeros to the end
  module _ (all : count ≤ i) where
    pub items_over : (n : ℕ) → a ≤ n → n ≤ a + (f.base + f.size - (f.base + done) + 1) → Stands m.bytes (f.base + done) (zeros (f.base + f.size - (f.base + done))) → Turns t m f old now n (left_over None)
    items_over n some le z = over_turns t fine m f old now a g turns (elements_over t e size i count done all) tt n some le z

    pub items_break : (fault : DecodeFault) → IsPadding m.bytes (f.base + done) (f.base + f.size) fault → BreaksFrame t m f old fault
    items_break fault p = over_breaks t fine m f old now a g turns (elements_over t e size i count done all) tt fault p

-- what a visit has spent, and what it leaves, is within the work of the value
pub visit_work : (t : List ℕ) (fine : IsFine t) (m : Message) (held e place : ℕ) (old new : Position) (spent : ℕ) (found : Option Frame) → e < (header_of t).entries → Visits t m held e place old new spent found
    → byte_work * (length m.bytes - new.next) + frame_work_if found + spent ≤ value_work m.bytes old.next (entry_at t e)
visit_work t fine m held e place old new spent found lt v =
    let is = ap (λ (f : Figure). inline_work f.nest * f.size) (stated t e lt) in
    let less = v.less in
    omega (arith, less, is)
