use Rattle.fidl_decode_values.specs.Reading.{message}
use Rattle.std.proofs.Common.{◌≡◌, ◌-◌, ◌≤◌}
use Rattle.std.specs.Prelude.{Some}
use Rattle.fidl_decode_model.specs.declared.frame.Remaining.TheVariants.{Elements}
use Rattle.fidl_decode_model.specs.Machine.{at_of, Turns}
use Rattle.fidl_decode_columns.proofs.Leaves.{going_on, left_over}
use Rattle.fidl_decode.proofs.frames.Frames.read_tables.Given as goal

-- what is read so far is a turn that leaves the frame from this element on
abbrev pub invariant-loop-i : goal.invariant-loop-i
invariant-loop-i l = record {
  holds : l.state.links.came ≡ l.self.decoder.bytes.value.came;
  turns : Turns l.self.decoder.table.now (message l.self.decoder) l.own (at_of l.fn.state) (at_of l.state) (l.state.steps - l.fn.state.steps) (left_over (Some (going_on l.own (Elements l.members.entry l.size (l.count - l.i)) l.done)));
  steps : l.fn.state.steps ≤ l.state.steps;
}
