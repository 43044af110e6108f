use Rattle.fidl_decode_values.specs.Reading.{message}
use Rattle.std.proofs.Common.{◌≡◌, ◌+◌, ◌-◌, ◌≤◌}
use Rattle.std.specs.Prelude.{Some}
use Rattle.fidl_decode_model.specs.Machine.{at_of, Turns}
use Rattle.fidl_decode_values.specs.Body.{IsNext, rest_of}
use Rattle.fidl_decode_columns.proofs.Leaves.{left_over}
use Rattle.fidl_decode_values.proofs.decoder.Decoder.pass_run.Given as goal

-- what is read so far is a turn, whose steps are those that are counted, and one for each envelope
abbrev pub invariant-loop-at : goal.invariant-loop-at
invariant-loop-at l = record {
  holds : l.state.links.came ≡ l.self.bytes.value.came;
  turns : Turns l.self.table.now (message l.self) (rest_of l.body l.fn.from.read) (at_of l.fn.state) (at_of l.state) (l.state.steps + (l.at.read - l.fn.from.read) - l.fn.state.steps) (left_over (Some (rest_of l.body l.at.read)));
  order : l.fn.from.read ≤ l.at.read;
  few : l.at.read ≤ l.body.known;
  at : IsNext l.body l.at;
  grows : l.fn.state.steps ≤ l.state.steps;
  pays : l.state.steps + l.fn.state.next ≤ l.fn.state.steps + l.state.next;
}

abbrev pub decreases-loop-at : goal.decreases-loop-at
decreases-loop-at l = l.body.known - l.at.read
