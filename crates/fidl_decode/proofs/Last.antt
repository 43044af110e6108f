-- The last member of a struct, behind which nothing is left: what it leads to takes the struct's place.
use Rattle.std.proofs.Common.{◌≡◌, ℕ, ◌+◌, ◌-◌, ◌≤◌, List, [], ◌∷◌, length, refl, sym, ap, arith}
use Rattle.std.specs.Prelude.{Option, Some, None}
use Rattle.fidl_wire.specs.Term.{resolve}
use Rattle.fidl_wire.specs.Term as ty
use Rattle.fidl_wire.specs.Figure.{Declarations, size_of}
use Rattle.fidl_wire.specs.Encoding.{zeros}
use Rattle.fidl_wire.specs.Standing.{Stands}
use Rattle.fidl_table_format.specs.declared.record.Row as raw
use Rattle.fidl_table_format.specs.Section.{header_of, entry_at, row_at}
use Rattle.fidl_table_format.specs.Terms.{declarations_of}
use Rattle.fidl_decode_model.specs.declared.fault.DecodeFault.{DecodeFault}
use Rattle.fidl_decode_model.specs.declared.frame.Frame.{Frame}
use Rattle.fidl_decode_model.specs.declared.frame.Remaining.{Remaining}
use Rattle.fidl_decode_model.specs.declared.frame.Remaining.TheVariants.{Rows}
use Rattle.fidl_decode_model.specs.Invariants.{IsFine}
use Rattle.fidl_decode_model.specs.Rows.{Row}
use Rattle.fidl_decode_model.specs.State.{Message, Position}
use Rattle.fidl_decode_model.specs.Breaks.{IsPadding, Breaks}
use Rattle.fidl_decode_model.specs.Machine.{rows_left, BreaksFrame, IsInside, StateFine, FrameFine, Visits, VisitFine, Turns, frame_work, probes}
use Rattle.fidl_decode_model.proofs.Turning.{row_inside}
use Rattle.fidl_decode_columns.proofs.Leaves.{going_on, same_frame, left_over, no_zeros, turns_start, next_size, next_room, next_gap_breaks, next_leaf_breaks, next_takes, over_turns}
use Rattle.fidl_decode.proofs.Tail.{turns_tail}

module _ (t : List ℕ) (fine : IsFine t) (m : Message) (f : Frame) (first : ℕ) (w : raw.Row) (last : f.left ≡ Rows first 1) (is : w ≡ row_at t (header_of t) first) (old : Position) (ff : FrameFine t m.bytes f) (state : StateFine m old) where
  abbrev ds : Declarations
  ds = declarations_of t

  abbrev g : Frame
  g = going_on f (Rows first 1) f.done

  start : Turns t m f old old 0 (left_over (Some g))
  start = turns_start t m f old ff state g (same_frame f (Rows first 1) last)

  abbrev r : Row
  r = record { offset = w.key; entry = w.entry }

  abbrev left : Remaining
  left = Rows (first + 1) 0

  one : rows_left t f.done (Rows first 1) ≡ r ∷ rows_left t (r.offset + size_of ds (ty.named r.entry)) left
  one = ap (λ (w : raw.Row). (let x : Row = record { offset = w.key; entry = w.entry } in x) ∷ []) (sym is)

  -- it lies behind what is read, within the frame and the message, and there is work for it
  pub last_room : (f.done ≤ w.key) × (w.key + (entry_at t w.entry).size ≤ f.size) × (f.base + f.size ≤ length m.bytes) × (w.key - f.done + 2 + probes ≤ frame_work f)
  last_room = next_room t fine m f old old 0 g start r left one

  pub last_inside : IsInside f.in_envelope (entry_at t w.entry).size
  last_inside = row_inside t fine m g old start.rest_fine.0 state r left one (entry_at t w.entry).size (next_size t fine m f old old 0 g start r left one)

  pub last_gap_breaks : (fault : DecodeFault) → IsPadding m.bytes (f.base + f.done) (f.base + w.key) fault → BreaksFrame t m f old fault
  last_gap_breaks fault p = next_gap_breaks t fine m f old old 0 g start r left one tt fault p

  pub last_breaks : (fault : DecodeFault) → Stands m.bytes (f.base + f.done) (zeros (f.base + w.key - (f.base + f.done))) → Breaks ds m f.depth (resolve ds.terms (ty.named w.entry)) (f.base + w.key) old fault → BreaksFrame t m f old fault
  last_breaks fault z b = next_leaf_breaks t fine m f old old 0 g start r left one tt fault z b

  module _ (new : Position) (spent n : ℕ) (whole : w.key + (entry_at t w.entry).size ≡ f.size) (some : 1 + spent ≤ n) (le : n ≤ f.base + w.key - (f.base + f.done) + 1 + spent) (z : Stands m.bytes (f.base + f.done) (zeros (f.base + w.key - (f.base + f.done)))) where
    abbrev h : Frame
    h = going_on f left f.size

    takes : (found : Option Frame) → Visits t m f.depth w.entry (f.base + w.key) old new spent found → VisitFine t m f.depth f.in_envelope w.entry found → Turns t m f old new n (record { below = found; rest = Some h })
    takes found v vf = next_takes t fine m f old old 0 g start r left one tt (let left = start.rest_fine.0.left in omega (arith, left)) tt found new f.size spent n (sym whole) (omega (arith, some)) (omega (arith, le)) z v vf

    -- what it leads to is left, or nothing
    pub last_turns : (found : Option Frame) → Visits t m f.depth w.entry (f.base + w.key) old new spent found → VisitFine t m f.depth f.in_envelope w.entry found → Turns t m f old new n (left_over found)
    last_turns None v vf = over_turns t fine m f old new n h (takes None v vf) refl tt n (omega arith) (omega arith) (no_zeros m.bytes (h.base + h.done) _ (omega arith))
    last_turns (Some below) v vf = turns_tail t fine m f below h old new n (takes (Some below) v vf) (refl, refl)
