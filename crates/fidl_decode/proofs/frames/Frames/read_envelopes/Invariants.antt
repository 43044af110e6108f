use Rattle.fidl_decode_values.specs.Reading.{message}
use Rattle.std.proofs.Common.{◌≡◌, ◌-◌, ◌≤◌}
use Rattle.std.specs.Prelude.{Some}
use Rattle.fidl_decode_model.specs.Machine.{at_of, Turns, behind_envelopes}
use Rattle.fidl_decode_columns.proofs.Leaves.{left_over}
use Rattle.fidl_decode.proofs.frames.Frames.read_envelopes.Given as goal

-- what is read so far is a turn that leaves these envelopes
abbrev pub invariant-loop-many : goal.invariant-loop-many
invariant-loop-many l = record {
  holds : l.state.links.came ≡ l.self.decoder.bytes.value.came;
  turns : Turns l.self.decoder.table.now (message l.self.decoder) l.frame (at_of l.fn.state) (at_of l.state) (l.state.steps - l.fn.state.steps) (left_over (Some (behind_envelopes l.frame l.entry l.passed l.many l.done)));
  steps : l.fn.state.steps ≤ l.state.steps;
}

abbrev pub decreases-loop-many : goal.decreases-loop-many
decreases-loop-many l = l.many
