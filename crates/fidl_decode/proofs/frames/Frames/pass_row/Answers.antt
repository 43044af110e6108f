use Rattle.fidl_decode_values.specs.Reading.{message}
use Rattle.fidl_decode_values.proofs.Fitting.{some_left, spends_some}
use Rattle.std.proofs.Common.{◌+◌, ◌-◌, subst, arith}
use Rattle.std.specs.Prelude.{Some}
use Rattle.fidl_table_format.specs.declared.record.Row as raw
use Rattle.fidl_table_format.specs.Section.{entry_at}
use Rattle.fidl_decode_model.specs.declared.frame.Remaining.TheVariants.{Rows}
use Rattle.fidl_decode_model.specs.Machine.{Turns, at_of}
use Rattle.fidl_decode_columns.proofs.Leaves.{going_on, left_over}
use Rattle.fidl_decode.proofs.Front.{front_room, front_turns}
use Rattle.fidl_decode_values.proofs.ReadyRows.{first_free, first_ready}
use Rattle.fidl_decode.proofs.frames.Frames.pass_row.Goals as goal

pub may_be_passed-requires-clause-room : goal.may_be_passed-requires-clause-room
may_be_passed-requires-clause-room g c =
    let t = c.args.self.now.decoder.table.now in
    let m = message c.args.self.now.decoder in
    let some = some_left c.args.count c.if-count-eq0.false in
    let room = front_room t c.args.self.now.decoder.fine m c.args.frame c.args.first c.args.count c.row-row.result c.requires.left some c.row-row.ensures.value (at_of c.args.state.now) c.requires.frame c.requires.state in
    omega (arith, room.1, room.2)

pub may_be_passed-requires-clause-ready : goal.may_be_passed-requires-clause-ready
may_be_passed-requires-clause-ready g c =
    first_ready c.args.self.now.decoder.table.now c.args.self.now.decoder.fine (message c.args.self.now.decoder) c.args.frame c.args.first c.args.count c.row-row.result c.requires.left
    (some_left c.args.count c.if-count-eq0.false) c.row-row.ensures.value (at_of c.args.state.now) c.requires.frame c.requires.state c.requires.ready

pub pass_value-requires-clause-order : goal.pass_value-requires-clause-order
pass_value-requires-clause-order g c =
    let t = c.args.self.now.decoder.table.now in
    let m = message c.args.self.now.decoder in
    let some = some_left c.args.count c.if-count-eq0.false in
    let room = front_room t c.args.self.now.decoder.fine m c.args.frame c.args.first c.args.count c.row-row.result c.requires.left some c.row-row.ensures.value (at_of c.args.state.now) c.requires.frame c.requires.state in
    omega (arith, room.0)

pub pass_value-requires-clause-room : goal.pass_value-requires-clause-room
pass_value-requires-clause-room g c =
    let t = c.args.self.now.decoder.table.now in
    let m = message c.args.self.now.decoder in
    let some = some_left c.args.count c.if-count-eq0.false in
    let room = front_room t c.args.self.now.decoder.fine m c.args.frame c.args.first c.args.count c.row-row.result c.requires.left some c.row-row.ensures.value (at_of c.args.state.now) c.requires.frame c.requires.state in
    omega (arith, room.1, room.2)

pub pass_value-requires-clause-free : goal.pass_value-requires-clause-free
pass_value-requires-clause-free g c =
    first_free c.args.self.now.decoder.table.now c.args.self.now.decoder.fine (message c.args.self.now.decoder) c.args.frame c.args.first c.args.count c.row-row.result c.requires.left
    (some_left c.args.count c.if-count-eq0.false) c.row-row.ensures.value (at_of c.args.state.now) c.requires.frame c.requires.state c.requires.ready

pub pass_value-requires-clause-ready : goal.pass_value-requires-clause-ready
pass_value-requires-clause-ready g c =
    first_ready c.args.self.now.decoder.table.now c.args.self.now.decoder.fine (message c.args.self.now.decoder) c.args.frame c.args.first c.args.count c.row-row.result c.requires.left
    (some_left c.args.count c.if-count-eq0.false) c.row-row.ensures.value (at_of c.args.state.now) c.requires.frame c.requires.state c.requires.ready

pub overflow_sub-state : goal.overflow_sub-state
overflow_sub-state g c =
    let t = c.args.self.now.decoder.table.now in
    let m = message c.args.self.now.decoder in
    let some = some_left c.args.count c.if-count-eq0.false in
    let room = front_room t c.args.self.now.decoder.fine m c.args.frame c.args.first c.args.count c.row-row.result c.requires.left some c.row-row.ensures.value (at_of c.args.state.now) c.requires.frame c.requires.state in
    omega (arith, room.0)

pub overflow_add-state-2 : goal.overflow_add-state-2
overflow_add-state-2 g c =
    let t = c.args.self.now.decoder.table.now in
    let m = message c.args.self.now.decoder in
    let some = some_left c.args.count c.if-count-eq0.false in
    let room = front_room t c.args.self.now.decoder.fine m c.args.frame c.args.first c.args.count c.row-row.result c.requires.left some c.row-row.ensures.value (at_of c.args.state.now) c.requires.frame c.requires.state in
    let v = c.pass_value.ensures.passed c.if-not-pass_value.false in
    let next = v.state.next in
    record { fits = omega (arith, room.0, room.1, room.2, c.args.self.now.decoder.short, c.requires.budget, c.pass_value.ensures.pays, next) }

pub returns-clause-passed : goal.returns-clause-passed
returns-clause-passed g c so =
    let t = c.args.self.now.decoder.table.now in
    let m = message c.args.self.now.decoder in
    let some = some_left c.args.count c.if-count-eq0.false in
    let room = front_room t c.args.self.now.decoder.fine m c.args.frame c.args.first c.args.count c.row-row.result c.requires.left some c.row-row.ensures.value (at_of c.args.state.now) c.requires.frame c.requires.state in
    let v = c.pass_value.ensures.passed c.if-not-pass_value.false in
    let z = c.pass_value.ensures.gap c.if-not-pass_value.false in
    let grows = c.pass_value.ensures.grows in
    let new = at_of c.pass_value.new.state in
    let all = c.pass_value.new.state.steps + (c.args.frame.base + c.row-row.result.key - (c.args.frame.base + c.args.frame.done) + 1) - c.args.state.now.steps in
    let two = front_turns t c.args.self.now.decoder.fine m c.args.frame c.args.first c.args.count c.row-row.result c.requires.left some c.row-row.ensures.value (at_of c.args.state.now) c.requires.frame c.requires.state new
    (c.pass_value.new.state.steps - c.args.state.now.steps) all (omega (arith, grows, room.0)) (omega (arith, grows, room.0)) z v in
    subst (λ (w : raw.Row). Turns t m c.args.frame (at_of c.args.state.now) new all (left_over (Some (going_on c.args.frame (Rows (c.args.first + 1) (c.args.count - 1)) (w.key + (entry_at t w.entry).size)))))
    c.row-row.ensures.value two

pub returns-clause-spends : goal.returns-clause-spends
returns-clause-spends g c so =
    let t = c.args.self.now.decoder.table.now in
    let m = message c.args.self.now.decoder in
    let some = some_left c.args.count c.if-count-eq0.false in
    let room = front_room t c.args.self.now.decoder.fine m c.args.frame c.args.first c.args.count c.row-row.result c.requires.left some c.row-row.ensures.value (at_of c.args.state.now) c.requires.frame c.requires.state in
    let v = c.pass_value.ensures.passed c.if-not-pass_value.false in
    let next = v.state.next in
    spends_some _ _ _ (omega (arith, c.pass_value.ensures.grows)) (omega (arith, room.3, room.0, c.pass_value.ensures.pays, next))
