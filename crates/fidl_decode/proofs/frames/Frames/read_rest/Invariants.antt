use Rattle.fidl_decode_values.specs.Reading.{message}
use Rattle.std.proofs.Common.{◌≡◌, ◌-◌, ◌≤◌}
use Rattle.std.specs.Prelude.{Some}
use Rattle.fidl_decode_model.specs.Machine.{at_of, Turns, turn_work}
use Rattle.fidl_decode_columns.proofs.Leaves.{left_over}
use Rattle.fidl_decode.proofs.frames.Frames.read_rest.Given as goal

-- what is read so far is a turn that leaves this frame
abbrev pub invariant-loop-now : goal.invariant-loop-now
invariant-loop-now l = record {
  holds : l.state.links.came ≡ l.self.decoder.bytes.value.came;
  turns : Turns l.self.decoder.table.now (message l.self.decoder) l.fn.frame (at_of l.fn.state) (at_of l.state) (l.state.steps - l.fn.state.steps) (left_over (Some l.rest));
  steps : l.fn.state.steps ≤ l.state.steps;
}

abbrev pub decreases-loop-now : goal.decreases-loop-now
decreases-loop-now l = turn_work l.self.decoder.bytes.value.came l.state.next l.rest
