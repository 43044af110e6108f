use Rattle.fidl_decode_values.specs.Reading.{message}
use Rattle.std.proofs.Common.{◌≡◌, ◌-◌, ◌≤◌}
use Rattle.std.specs.Prelude.{Some}
use Rattle.fidl_decode_model.specs.declared.frame.Remaining.TheVariants.{Rows}
use Rattle.fidl_decode_model.specs.Machine.{at_of, Turns, turn_work}
use Rattle.fidl_decode_columns.proofs.Leaves.{going_on, left_over}
use Rattle.fidl_decode.proofs.frames.Frames.read_nested.Given as goal

-- what is read so far is a turn that leaves these rows of this struct
abbrev pub invariant-loop-many : goal.invariant-loop-many
invariant-loop-many g l = record {
  holds : l.state.links.came ≡ l.self.decoder.bytes.value.came;
  turns : Turns l.self.decoder.table.now (message l.self.decoder) l.fn.frame (at_of l.fn.state) (at_of l.state) (l.state.steps - l.fn.state.steps) (left_over (Some (going_on l.holder (Rows l.next l.many) l.done)));
  steps : l.fn.state.steps ≤ l.state.steps;
}

abbrev pub decreases-loop-many : goal.decreases-loop-many
decreases-loop-many g l = turn_work l.self.decoder.bytes.value.came l.state.next (going_on l.holder (Rows l.next l.many) l.done)
