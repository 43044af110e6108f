use Rattle.fidl_decode_values.specs.Reading.{message}
use Rattle.fidl_decode_values.proofs.Fitting.{le_more, eq_le, spends_any}
use Rattle.fidl_decode_values.proofs.Unchanged.{no_ok}
use Rattle.std.proofs.Common.{◌+◌, ◌-◌, sym, subst, arith}
use Rattle.std.specs.Prelude.{Some, None, refl}
use Rattle.fidl_decode_values.proofs.EnvelopeTurns.{envelopes_over}
use Rattle.fidl_decode_values.specs.Body.{envelopes_of, envelopes_behind}
use Rattle.fidl_decode_model.specs.Machine.{Visits, VisitFine, at_of, height}
use Rattle.fidl_decode_columns.proofs.Leaves.{left_over, turns_then}
use Rattle.fidl_decode_model.proofs.Turning.{fine_from, passed_on}
use Rattle.fidl_decode_values.proofs.BodyTurns.{visits_on}
use Rattle.fidl_decode_values.proofs.ReadyBelow.{table_ready, visit_ready}
use Rattle.fidl_decode_values.proofs.decoder.Decoder.read_table.Goals as goal

pub returns-then-read-count-clause-ok : goal.returns-then-read-count-clause-ok
returns-then-read-count-clause-ok c =
    let t = c.args.self.now.table.now in
    let m = message c.args.self.now in
    let old = c.args.state.now in
    let mid = c.open_table.new.state in
    let now = c.pass_front-read.new.state in
    let count = c.in_ok-count.count in
    let read = c.pass_front-read.result in
    let whole = envelopes_of c.args.entry old.next count (c.args.depth + 1) in
    let rest = envelopes_behind c.args.entry old.next count (c.args.depth + 1) read in
    let still = c.open_table.ensures.steps in
    let grows = c.pass_front-read.ensures.grows in
    let front = c.pass_front-read.ensures.turns in
    let over = envelopes_over t c.args.self.now.fine m (c.args.self.now.short, c.requires.state.few) rest c.args.entry read
    (count - read) (at_of now) front.rest_fine.0 front.state (omega (arith, c.if-read-count.true)) 1 refl in
    let run = turns_then t m whole (at_of mid) (at_of now) (now.steps - mid.steps) rest front (at_of now) 1 (now.steps + 1 - mid.steps) (left_over None) (omega (arith, grows)) over in
    visits_on t m c.args.depth c.args.entry c.args.place (at_of old) (at_of mid) 0 whole c.in_ok-count.ensures.ok (at_of now) (now.steps + 1 - mid.steps) (now.steps + 1 - old.steps) None (omega (arith, still)) run

pub returns-clause-ok : goal.returns-clause-ok
returns-clause-ok c =
    let t = c.args.self.now.table.now in
    let m = message c.args.self.now in
    let old = c.args.state.now in
    let mid = c.open_table.new.state in
    let now = c.pass_front-read.new.state in
    let count = c.in_ok-count.count in
    let whole = envelopes_of c.args.entry old.next count (c.args.depth + 1) in
    let rest = envelopes_behind c.args.entry old.next count (c.args.depth + 1) c.pass_front-read.result in
    let still = c.open_table.ensures.steps in
    subst (λ f. Visits t m c.args.depth c.args.entry c.args.place (at_of old) (at_of now) (now.steps - old.steps) (Some f)) (sym c.envelopes_left.ensures)
    (visits_on t m c.args.depth c.args.entry c.args.place (at_of old) (at_of mid) 0 whole c.in_ok-count.ensures.ok (at_of now) (now.steps - mid.steps) (now.steps - old.steps) (Some rest) (omega (arith, still)) c.pass_front-read.ensures.turns)

pub returns-clause-fine : goal.returns-clause-fine
returns-clause-fine c =
    λ inside small.
    let t = c.args.self.now.table.now in
    let m = message c.args.self.now in
    let count = c.in_ok-count.count in
    let whole = envelopes_of c.args.entry c.args.state.now.next count (c.args.depth + 1) in
    let rest = envelopes_behind c.args.entry c.args.state.now.next count (c.args.depth + 1) c.pass_front-read.result in
    let fine = c.in_ok-count.ensures.fine inside small in
    subst (λ f. VisitFine t m c.args.depth inside c.args.entry (Some f)) (sym c.envelopes_left.ensures)
    (fine_from t m.bytes (height whole) _ (Some rest) fine.1 c.pass_front-read.ensures.turns.rest_fine)

pub open_table-requires-clause-entry : goal.open_table-requires-clause-entry
open_table-requires-clause-entry c = c.requires.entry

pub open_table-requires-clause-kind : goal.open_table-requires-clause-kind
open_table-requires-clause-kind c = c.requires.kind

pub open_table-requires-clause-room : goal.open_table-requires-clause-room
open_table-requires-clause-room c = c.requires.room

pub open_table-requires-clause-state : goal.open_table-requires-clause-state
open_table-requires-clause-state c = c.requires.state

pub open_table-requires-clause-depth : goal.open_table-requires-clause-depth
open_table-requires-clause-depth c = c.requires.depth

pub overflow_add-depth : goal.overflow_add-depth
overflow_add-depth c = record { fits = omega arith }

pub pass_front-read-requires-clause-budget : goal.pass_front-read-requires-clause-budget
pass_front-read-requires-clause-budget c = omega arith

pub returns-clause-fault_is_true : goal.returns-clause-fault_is_true
returns-clause-fault_is_true c = tt

pub returns-in_err-count-clause-ok : goal.returns-in_err-count-clause-ok
returns-in_err-count-clause-ok c = no_ok c.from_residual.result c.in_err-count.field-0.0 _ c.from_residual.ensures.1

pub returns-in_err-count-clause-fine : goal.returns-in_err-count-clause-fine
returns-in_err-count-clause-fine c b0 b1 = no_ok c.from_residual.result c.in_err-count.field-0.0 _ c.from_residual.ensures.1

pub returns-in_err-count-clause-fault_is_true : goal.returns-in_err-count-clause-fault_is_true
returns-in_err-count-clause-fault_is_true c = passed_on c.from_residual.result c.in_err-count.field-0.0 _ c.from_residual.ensures.1 c.in_err-count.ensures.fault_is_true

pub returns-in_err-count-clause-spends : goal.returns-in_err-count-clause-spends
returns-in_err-count-clause-spends c = spends_any _ _ _ (eq_le _ _ c.open_table.ensures.steps) (omega (arith, c.open_table.ensures.steps))

pub pass_front-read-requires-clause-state : goal.pass_front-read-requires-clause-state
pass_front-read-requires-clause-state c = c.in_ok-count.ensures.ok.state

pub pass_front-read-requires-clause-entry : goal.pass_front-read-requires-clause-entry
pass_front-read-requires-clause-entry c = c.requires.entry

pub pass_front-read-requires-clause-kind : goal.pass_front-read-requires-clause-kind
pass_front-read-requires-clause-kind c = c.requires.kind

pub pass_front-read-requires-clause-frame : goal.pass_front-read-requires-clause-frame
pass_front-read-requires-clause-frame c = (c.in_ok-count.ensures.fine 0 (le_more 0 1)).0

pub pass_front-read-requires-clause-ready : goal.pass_front-read-requires-clause-ready
pass_front-read-requires-clause-ready c =
    let t = c.args.self.now.table.now in
    let m = message c.args.self.now in
    let old = c.args.state.now in
    let mid = c.open_table.new.state in
    let whole = envelopes_of c.args.entry old.next c.in_ok-count.count (c.args.depth + 1) in
    visit_ready t m c.args.depth c.args.entry c.args.place (at_of old) (at_of mid) 0 whole c.in_ok-count.ensures.ok (table_ready t m (at_of old) c.args.self.now.fine c.args.entry c.args.place c.requires.entry c.requires.kind c.requires.ready)
