-- The next row of a struct: a leaf, behind zeros.
use Rattle.std.proofs.Common.{◌≡◌, ℕ, ◌+◌, ◌-◌, ◌<◌, ◌≤◌, List, ◌∷◌, length, refl, sym, ap, ◌∙◌, arith}
use Rattle.std.specs.Prelude.{Option, Some, None}
use Rattle.fidl_wire.specs.Term.{resolve}
use Rattle.fidl_wire.specs.Term as ty
use Rattle.fidl_wire.specs.Figure.{Declarations, size_of}
use Rattle.fidl_wire.specs.Encoding.{zeros}
use Rattle.fidl_wire.specs.Standing.{Stands}
use Rattle.fidl_table_format.specs.declared.record.Row as raw
use Rattle.fidl_table_format.specs.Section.{header_of, entry_at, row_at}
use Rattle.fidl_table_format.specs.Terms.{declarations_of}
use Rattle.fidl_decode_model.specs.declared.fault.DecodeFault.{DecodeFault}
use Rattle.fidl_decode_model.specs.declared.frame.Frame.{Frame}
use Rattle.fidl_decode_model.specs.declared.frame.Remaining.{Remaining}
use Rattle.fidl_decode_model.specs.declared.frame.Remaining.TheVariants.{Rows}
use Rattle.fidl_decode_model.specs.Invariants.{IsFine}
use Rattle.fidl_decode_model.specs.Rows.{Row, table_rows}
use Rattle.fidl_decode_model.specs.State.{Message, Position}
use Rattle.fidl_decode_model.specs.Breaks.{IsPadding, Breaks}
use Rattle.fidl_decode_model.specs.Machine.{rows_left, BreaksFrame, StateFine, FrameFine, IsInside, Visits, VisitFine, Turns, frame_work, probes}
use Rattle.fidl_decode_model.proofs.Stated.{table_rows-more}
use Rattle.fidl_decode_columns.proofs.Leaves.{going_on, same_frame, left_over, turns_start, next_size, next_room, next_gap_breaks, next_leaf_breaks, next_takes, next_turns}
use Rattle.fidl_decode_model.proofs.Turning.{row_inside}

module _ (t : List ℕ) (fine : IsFine t) (m : Message) (f : Frame) (first count : ℕ) (w : raw.Row) (rows : f.left ≡ Rows first count) (some : 0 < count) (is : w ≡ row_at t (header_of t) first) (old : Position) (ff : FrameFine t m.bytes f) (state : StateFine m old) where
  abbrev ds : Declarations
  ds = declarations_of t

  abbrev g : Frame
  g = going_on f (Rows first count) f.done

  start : Turns t m f old old 0 (left_over (Some g))
  start = turns_start t m f old ff state g (same_frame f (Rows first count) rows)

  abbrev r : Row
  r = record { offset = w.key; entry = w.entry }

  abbrev left : Remaining
  left = Rows (first + 1) (count - 1)

  one : rows_left t f.done (Rows first count) ≡ r ∷ rows_left t (r.offset + size_of ds (ty.named r.entry)) left
  one = table_rows-more t first count (λ none. absurd (omega (arith, some, none)))
      ∙ ap (λ (w : raw.Row). (let x : Row = record { offset = w.key; entry = w.entry } in x) ∷ table_rows t (header_of t) (first + 1) (count - 1)) (sym is)

  -- it lies behind what is read, within the frame and the message, and there is work for it
  pub front_room : (f.done ≤ w.key) × (w.key + (entry_at t w.entry).size ≤ f.size) × (f.base + f.size ≤ length m.bytes) × (w.key - f.done + 2 + probes ≤ frame_work f)
  front_room = next_room t fine m f old old 0 g start r left one

  pub front_gap_breaks : (fault : DecodeFault) → IsPadding m.bytes (f.base + f.done) (f.base + w.key) fault → BreaksFrame t m f old fault
  front_gap_breaks fault p = next_gap_breaks t fine m f old old 0 g start r left one tt fault p

  pub front_breaks : (fault : DecodeFault) → Stands m.bytes (f.base + f.done) (zeros (f.base + w.key - (f.base + f.done))) → Breaks ds m f.depth (resolve ds.terms (ty.named w.entry)) (f.base + w.key) old fault → BreaksFrame t m f old fault
  front_breaks fault z b = next_leaf_breaks t fine m f old old 0 g start r left one tt fault z b

  -- it lies in the four bytes of an envelope where its frame does
  pub front_inside : IsInside f.in_envelope (entry_at t w.entry).size
  front_inside = row_inside t fine m g old start.rest_fine.0 state r left one (entry_at t w.entry).size (next_size t fine m f old old 0 g start r left one)

  -- it leads to what is below
  pub front_takes : (below : Option Frame) (new : Position) (spent n : ℕ) → 1 + spent ≤ n → n ≤ f.base + w.key - (f.base + f.done) + 1 + spent → Stands m.bytes (f.base + f.done) (zeros (f.base + w.key - (f.base + f.done))) → Visits t m f.depth w.entry (f.base + w.key) old new spent below
      → VisitFine t m f.depth f.in_envelope w.entry below → Turns t m f old new n (record { below = below; rest = Some (going_on f left (w.key + (entry_at t w.entry).size)) })
  front_takes below new spent n least le z v vf =
      let room = start.rest_fine.0.left in
      next_takes t fine m f old old 0 g start r left one tt (omega (arith, room, some)) tt below new (w.key + (entry_at t w.entry).size) spent n refl (omega (arith, least)) (omega (arith, le)) z v vf

  pub front_turns : (new : Position) (spent n : ℕ) → 1 + spent ≤ n → n ≤ f.base + w.key - (f.base + f.done) + 1 + spent → Stands m.bytes (f.base + f.done) (zeros (f.base + w.key - (f.base + f.done))) → Visits t m f.depth w.entry (f.base + w.key) old new spent None
      → Turns t m f old new n (left_over (Some (going_on f left (w.key + (entry_at t w.entry).size))))
  front_turns new spent n least le z v =
      let room = start.rest_fine.0.left in
      next_turns t fine m f old old 0 g start r left one tt (omega (arith, room, some)) tt new (w.key + (entry_at t w.entry).size) spent n refl (omega (arith, least)) (omega (arith, le)) z v
