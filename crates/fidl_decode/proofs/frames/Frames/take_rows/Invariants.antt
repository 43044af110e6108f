use Rattle.fidl_decode_values.specs.Reading.{message}
use Rattle.std.proofs.Common.{◌≡◌, ◌-◌, ◌≤◌}
use Rattle.std.specs.Prelude.{Some}
use Rattle.fidl_decode_model.specs.declared.frame.Remaining.TheVariants.{Rows}
use Rattle.fidl_decode_model.specs.Machine.{at_of, Turns, turn_work}
use Rattle.fidl_decode_columns.proofs.Leaves.{left_over}
use Rattle.fidl_decode.proofs.frames.Frames.take_rows.Given as goal

-- what is read so far is a turn that leaves these rows
abbrev pub invariant-loop-turn : goal.invariant-loop-turn
invariant-loop-turn l = record {
  holds : l.state.links.came ≡ l.self.decoder.bytes.value.came;
  left : l.rest.left ≡ Rows l.next l.many;
  turns : Turns l.self.decoder.table.now (message l.self.decoder) l.fn.frame (at_of l.fn.state) (at_of l.state) (l.state.steps - l.fn.state.steps) (left_over (Some l.rest));
  steps : l.fn.state.steps ≤ l.state.steps;
}

abbrev pub decreases-loop-turn : goal.decreases-loop-turn
decreases-loop-turn l = turn_work l.self.decoder.bytes.value.came l.state.next l.rest
