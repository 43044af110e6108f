use Rattle.fidl_decode_values.specs.Reading.{message}
use Rattle.std.proofs.Common.{◌+◌, ◌-◌, sym, subst, arith}
use Rattle.std.specs.Prelude.{Some, None, refl}
use Rattle.fidl_decode_values.proofs.EnvelopeTurns.{envelopes_over}
use Rattle.fidl_decode_values.specs.Body.{envelopes_of, envelopes_behind}
use Rattle.fidl_decode_model.specs.Machine.{Turns, FineIf, at_of, height}
use Rattle.fidl_decode_model.proofs.Turning.{fine_from}
use Rattle.fidl_decode_values.specs.Ready.{FrameReady}
use Rattle.fidl_decode_members.proofs.Front.{none_read}
use Rattle.fidl_decode_columns.proofs.Leaves.{left_over, turns_then}
use Rattle.fidl_decode_values.proofs.BodyTurns.{visits_on}
use Rattle.fidl_decode_values.proofs.ReadyBelow.{table_ready, visit_ready}
use Rattle.fidl_decode_members.proofs.members.Members.read_table.Goals as goal

pub returns-then-read-count-clause-whole : goal.returns-then-read-count-clause-whole
returns-then-read-count-clause-whole c =
    λ same.
    let d = c.args.decoder.now in
    let t = d.table.now in
    let m = message d in
    let entry = c.args.self.now.entry in
    let old = c.args.state.now in
    let mid = c.open_table.new.state in
    let now = c.pass_front-read.new.state in
    let count = c.in_ok-count.count in
    let read = c.pass_front-read.result in
    let whole = envelopes_of entry old.next count (c.args.depth + 1) in
    let rest = envelopes_behind entry old.next count (c.args.depth + 1) read in
    let still = c.open_table.ensures.steps in
    let grows = c.pass_front-read.ensures.grows in
    let front = subst (λ f. Turns t m f (at_of mid) (at_of now) (now.steps - mid.steps) (left_over (Some rest))) (sym (none_read c.args.self.now (record { base = old.next; count = count; depth = c.args.depth + 1 }))) c.pass_front-read.ensures.turns in
    let over = envelopes_over t d.fine m (d.short, c.requires.state.few) rest entry read
    (count - read) (at_of now) front.rest_fine.0 front.state (omega (arith, c.if-read-count.true)) 1 refl in
    let run = turns_then t m whole (at_of mid) (at_of now) (now.steps - mid.steps) rest front (at_of now) 1 (now.steps + 1 - mid.steps) (left_over None) (omega (arith, grows)) over in
    visits_on t m c.args.depth entry c.args.place (at_of old) (at_of mid) 0 whole c.in_ok-count.ensures.ok (at_of now) (now.steps + 1 - mid.steps) (now.steps + 1 - old.steps) None (omega (arith, still)) run

pub returns-clause-left : goal.returns-clause-left
returns-clause-left c =
    λ less.
    let d = c.args.decoder.now in
    let t = d.table.now in
    let m = message d in
    let entry = c.args.self.now.entry in
    let old = c.args.state.now in
    let mid = c.open_table.new.state in
    let now = c.pass_front-read.new.state in
    let count = c.in_ok-count.count in
    let whole = envelopes_of entry old.next count (c.args.depth + 1) in
    let rest = envelopes_behind entry old.next count (c.args.depth + 1) c.pass_front-read.result in
    let front = subst (λ f. Turns t m f (at_of mid) (at_of now) (now.steps - mid.steps) (left_over (Some rest))) (sym (none_read c.args.self.now (record { base = old.next; count = count; depth = c.args.depth + 1 }))) c.pass_front-read.ensures.turns in
    let still = c.open_table.ensures.steps in
    visits_on t m c.args.depth entry c.args.place (at_of old) (at_of mid) 0 whole c.in_ok-count.ensures.ok (at_of now) (now.steps - mid.steps) (now.steps - old.steps) (Some rest) (omega (arith, still)) front

pub pass_front-read-requires-clause-ready : goal.pass_front-read-requires-clause-ready
pass_front-read-requires-clause-ready c =
    let d = c.args.decoder.now in
    let t = d.table.now in
    let m = message d in
    let entry = c.args.self.now.entry in
    let old = c.args.state.now in
    let mid = c.open_table.new.state in
    let whole = envelopes_of entry old.next c.in_ok-count.count (c.args.depth + 1) in
    subst (FrameReady t m (at_of mid)) (none_read c.args.self.now (record { base = old.next; count = c.in_ok-count.count; depth = c.args.depth + 1 }))
    (visit_ready t m c.args.depth entry c.args.place (at_of old) (at_of mid) 0 whole c.in_ok-count.ensures.ok (table_ready t m (at_of old) d.fine entry c.args.place c.requires.members.entry c.requires.members.is c.requires.ready))

pub returns-then-read-count-clause-left : goal.returns-then-read-count-clause-left
returns-then-read-count-clause-left c less = absurd (omega (arith, less, c.if-read-count.true))

pub returns-clause-whole : goal.returns-clause-whole
returns-clause-whole c same = absurd (c.if-read-count.false same)

pub returns-then-read-count-clause-fine : goal.returns-then-read-count-clause-fine
returns-then-read-count-clause-fine c =
    λ inside small.
    let d = c.args.decoder.now in
    let t = d.table.now in
    let m = message d in
    let entry = c.args.self.now.entry in
    let count = c.in_ok-count.count in
    let whole = envelopes_of entry c.args.state.now.next count (c.args.depth + 1) in
    let rest = envelopes_behind entry c.args.state.now.next count (c.args.depth + 1) c.pass_front-read.result in
    let none = sym (none_read c.args.self.now (record { base = c.args.state.now.next; count = count; depth = c.args.depth + 1 })) in
    let front = subst (λ f. FineIf t m.bytes (height f) (Some rest)) none c.pass_front-read.ensures.turns.rest_fine in
    fine_from t m.bytes (height whole) _ (Some rest) (c.in_ok-count.ensures.fine inside small).1 front

pub returns-clause-fine : goal.returns-clause-fine
returns-clause-fine c =
    λ inside small.
    let d = c.args.decoder.now in
    let t = d.table.now in
    let m = message d in
    let entry = c.args.self.now.entry in
    let count = c.in_ok-count.count in
    let whole = envelopes_of entry c.args.state.now.next count (c.args.depth + 1) in
    let rest = envelopes_behind entry c.args.state.now.next count (c.args.depth + 1) c.pass_front-read.result in
    let none = sym (none_read c.args.self.now (record { base = c.args.state.now.next; count = count; depth = c.args.depth + 1 })) in
    let front = subst (λ f. FineIf t m.bytes (height f) (Some rest)) none c.pass_front-read.ensures.turns.rest_fine in
    fine_from t m.bytes (height whole) _ (Some rest) (c.in_ok-count.ensures.fine inside small).1 front
