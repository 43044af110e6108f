-- Boxes that are passed over: the struct in one is the next object, and any bytes are a value of it.
use Rattle.std.proofs.Common.{◌≡◌, ℕ, ◌+◌, ◌-◌, ◌<◌, ◌≤◌, List, length, Some, None, refl, arith}
use Rattle.std.specs.Int.{next_multiple_of}
use Rattle.fidl_limits.specs.declared.limits.TheConstants.{MAX_DEPTH}
use Rattle.fidl_wire.specs.Encoding.{zeros, present}
use Rattle.fidl_wire.specs.Standing.{Stands}
use Rattle.fidl_table_format.specs.declared.kind.EntryKind.TheVariants.{Box}
use Rattle.fidl_table_format.specs.declared.record.Entry.{Entry}
use Rattle.fidl_table_format.specs.Kind.{kind_of}
use Rattle.fidl_table_format.specs.Section.{header_of, entry_at}
use Rattle.fidl_decode_model.specs.Invariants.{IsFine}
use Rattle.fidl_decode_model.specs.declared.frame.Frame.{Frame}
use Rattle.fidl_decode_model.specs.declared.frame.Remaining.TheVariants.{Rows}
use Rattle.fidl_decode_model.specs.State.{Message, Position, linked}
use Rattle.fidl_decode_model.specs.Machine.{StateFine, Visits, Turns, Passes, behind_rows}
use Rattle.fidl_decode_model.proofs.Objects.{object_frame}
use Rattle.fidl_decode_model.proofs.Boxed.{visits_box, box_fine}
use Rattle.fidl_decode_columns.proofs.Leaves.{left_over, over_room, over_turns}
use Rattle.fidl_decode_columns.proofs.Wholly.{visits_over}

module _ (t : List ℕ) (fine : IsFine t) (m : Message) (held e place : ℕ) (old : Position) (lt : e < (header_of t).entries) (is : kind_of (entry_at t e).kind ≡ Some Box)
    (state : StateFine m old) (deep : held ≤ MAX_DEPTH) (shallow : held < MAX_DEPTH) (room : next_multiple_of (entry_at t (entry_at t e).first).size 8 ≤ length m.bytes - old.next) where
  abbrev inner : Entry
  inner = entry_at t (entry_at t e).first

  abbrev f : Frame
  f = object_frame (Rows inner.first inner.count) inner.size inner.nest held old

  -- all rows of the struct in the box are passed over
  module _ (rows first done : ℕ) (passes : Passes t m (Rows inner.first inner.count) rows first 0 done None) where
    passed : (s : Position) → StateFine m s → Turns t m f s s rows (left_over (Some (behind_rows f first 0 done)))
    passed s there = passes f s (box_fine t fine m held e place old lt is state deep shallow room 0 (omega arith)).0 refl refl there tt

    pub rows_within : done ≤ next_multiple_of inner.size 8
    rows_within = (over_room t fine m f old old rows (behind_rows f first 0 done) (passed old state)).0

    -- and zeros stand behind them
    pub box_passed : Stands m.bytes place present → Stands m.bytes (old.next + done) (zeros (old.next + next_multiple_of inner.size 8 - (old.next + done))) → Visits t m held e place old (linked place inner.size old) rows None
    box_passed ones z =
        let v = visits_box t fine m held e place old lt is state deep 0 refl ones shallow room in
        let mid = linked place inner.size old in
        visits_over t m held e place old mid 0 f v mid rows rows (omega arith) (over_turns t fine m f mid mid rows (behind_rows f first 0 done) (passed mid v.state) refl tt rows (omega arith) (omega arith) z)
