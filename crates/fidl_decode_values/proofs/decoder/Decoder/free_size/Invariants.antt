use Rattle.fidl_decode_values.specs.Reading.{message}
use Rattle.std.proofs.Common.{◌≡◌, ◌-◌, ◌≤◌}
use Rattle.std.specs.Prelude.{Some}
use Rattle.fidl_decode_model.specs.declared.frame.Frame.{Frame}
use Rattle.fidl_decode_model.specs.declared.frame.Remaining.TheVariants.{Rows}
use Rattle.fidl_decode_model.specs.State.{Position}
use Rattle.fidl_decode_model.specs.Machine.{FrameFine, StateFine, Turns}
use Rattle.fidl_decode_columns.proofs.Leaves.{going_on, left_over}
use Rattle.fidl_decode_values.proofs.decoder.Decoder.free_size.Given as goal

-- wherever the struct stands, the rows before this one are a turn that leaves it from this row on
abbrev pub invariant-loop-i : goal.invariant-loop-i
invariant-loop-i l = record {
  passes : (f : Frame) → (s : Position) → FrameFine l.self.table.now l.self.bytes.value.came f → f.left ≡ Rows l.first l.count → f.done ≡ 0 →
      StateFine (message l.self) s → Turns l.self.table.now (message l.self) f s s (l.i - l.first)
      (left_over (Some (going_on f (Rows l.i (l.end - l.i)) l.done)));
  wide : l.i - l.first ≤ l.done;
}
