use Rattle.fidl_decode_values.specs.Reading.{message}
use Rattle.std.proofs.Common.{◌≡◌, ◌+◌, ◌-◌, ◌≤◌}
use Rattle.std.specs.Prelude.{Some}
use Rattle.fidl_decode_model.specs.Machine.{at_of, Turns}
use Rattle.fidl_decode_columns.proofs.Leaves.{left_over}
use Rattle.fidl_decode_members.specs.Members.{rest_of}
use Rattle.fidl_decode_members.proofs.members.Members.pass_front.Given as goal

-- what is read so far is a turn, whose steps are those that are counted, and one for each envelope
abbrev pub invariant-loop-read : goal.invariant-loop-read
invariant-loop-read l = record {
  holds : l.state.links.came ≡ l.decoder.bytes.value.came;
  turns : Turns l.decoder.table.now (message l.decoder) (rest_of l.self l.envelopes 0) (at_of l.fn.state) (at_of l.state) (l.state.steps + l.read - l.fn.state.steps) (left_over (Some (rest_of l.self l.envelopes l.read)));
  few : l.read ≤ l.known;
  grows : l.fn.state.steps ≤ l.state.steps;
  pays : l.state.steps + l.fn.state.next ≤ l.fn.state.steps + l.state.next;
}

abbrev pub decreases-loop-read : goal.decreases-loop-read
decreases-loop-read l = l.known - l.read
