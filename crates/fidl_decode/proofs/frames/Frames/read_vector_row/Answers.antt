use Rattle.fidl_decode_values.specs.Reading.{message}
use Rattle.fidl_decode_values.proofs.Fitting.{spends_some, not_fewer}
use Rattle.fidl_decode_values.proofs.Unchanged.{no_ok}
use Rattle.std.proofs.Common.{◌≡◌, ◌+◌, ◌-◌, ◌≤◌, ap, subst, ◌∙◌, arith}
use Rattle.std.specs.Prelude.{Some}
use Rattle.fidl_table_format.specs.declared.record.Row as raw
use Rattle.fidl_table_format.specs.Kind.{kind_of}
use Rattle.fidl_table_format.specs.Section.{header_of, entry_at}
use Rattle.fidl_decode_model.specs.declared.frame.Remaining.{Remaining}
use Rattle.fidl_decode_model.specs.declared.frame.Remaining.TheVariants.{Rows}
use Rattle.fidl_decode_model.specs.Machine.{LeftFine, Turns, at_of}
use Rattle.fidl_table_format.specs.declared.kind.EntryKind.TheVariants.{Vector}
use Rattle.fidl_decode_model.specs.Invariants.{is_free_at}
use Rattle.fidl_decode_model.proofs.Visiting.{size_as}
use Rattle.fidl_decode_values.proofs.ReadyPlaces.{place_of}
use Rattle.fidl_decode_model.proofs.Turning.{passed_on}
use Rattle.fidl_decode_columns.proofs.Leaves.{going_on, left_over}
use Rattle.fidl_decode.proofs.Front.{front_room, front_gap_breaks, front_breaks, front_turns}
use Rattle.fidl_decode_values.proofs.ReadyRows.{first_free, first_ready}
use Rattle.fidl_decode.proofs.frames.Frames.read_vector_row.Goals as goal

pub row-row-requires : goal.row-row-requires
row-row-requires c =
    let left : c.args.first + c.args.count ≤ (header_of c.args.self.now.decoder.table.now).rows = subst (λ (l : Remaining). LeftFine c.args.self.now.decoder.table.now l) c.requires.left c.requires.frame.left in
    omega (arith, left, c.requires.some)

pub overflow_add-front : goal.overflow_add-front
overflow_add-front c =
    let t = c.args.self.now.decoder.table.now in
    let m = message c.args.self.now.decoder in
    let room = front_room t c.args.self.now.decoder.fine m c.args.frame c.args.first c.args.count c.row-row.result c.requires.left c.requires.some c.row-row.ensures.value (at_of c.args.state.now) c.requires.frame c.requires.state in
    record { fits = omega (arith, room.0, room.1, room.2, c.args.self.now.decoder.short) }

pub overflow_add-place : goal.overflow_add-place
overflow_add-place c =
    let t = c.args.self.now.decoder.table.now in
    let m = message c.args.self.now.decoder in
    let room = front_room t c.args.self.now.decoder.fine m c.args.frame c.args.first c.args.count c.row-row.result c.requires.left c.requires.some c.row-row.ensures.value (at_of c.args.state.now) c.requires.frame c.requires.state in
    record { fits = omega (arith, room.1, room.2, c.args.self.now.decoder.short) }

pub overflow_sub-state : goal.overflow_sub-state
overflow_sub-state c =
    let t = c.args.self.now.decoder.table.now in
    let m = message c.args.self.now.decoder in
    let room = front_room t c.args.self.now.decoder.fine m c.args.frame c.args.first c.args.count c.row-row.result c.requires.left c.requires.some c.row-row.ensures.value (at_of c.args.state.now) c.requires.frame c.requires.state in
    omega (arith, room.0)

pub overflow_add-state : goal.overflow_add-state
overflow_add-state c =
    let t = c.args.self.now.decoder.table.now in
    let m = message c.args.self.now.decoder in
    let room = front_room t c.args.self.now.decoder.fine m c.args.frame c.args.first c.args.count c.row-row.result c.requires.left c.requires.some c.row-row.ensures.value (at_of c.args.state.now) c.requires.frame c.requires.state in
    record { fits = omega (arith, room.1, room.2, c.args.self.now.decoder.short) }

pub overflow_add-state-2 : goal.overflow_add-state-2
overflow_add-state-2 c =
    let t = c.args.self.now.decoder.table.now in
    let m = message c.args.self.now.decoder in
    let room = front_room t c.args.self.now.decoder.fine m c.args.frame c.args.first c.args.count c.row-row.result c.requires.left c.requires.some c.row-row.ensures.value (at_of c.args.state.now) c.requires.frame c.requires.state in
    record { fits = omega (arith, room.1, room.2, c.args.self.now.decoder.short, c.requires.budget) }

pub zeros_at-requires-clause-order : goal.zeros_at-requires-clause-order
zeros_at-requires-clause-order c =
    let t = c.args.self.now.decoder.table.now in
    let m = message c.args.self.now.decoder in
    let room = front_room t c.args.self.now.decoder.fine m c.args.frame c.args.first c.args.count c.row-row.result c.requires.left c.requires.some c.row-row.ensures.value (at_of c.args.state.now) c.requires.frame c.requires.state in
    omega (arith, room.0)

pub zeros_at-requires-clause-room : goal.zeros_at-requires-clause-room
zeros_at-requires-clause-room c =
    let t = c.args.self.now.decoder.table.now in
    let m = message c.args.self.now.decoder in
    let room = front_room t c.args.self.now.decoder.fine m c.args.frame c.args.first c.args.count c.row-row.result c.requires.left c.requires.some c.row-row.ensures.value (at_of c.args.state.now) c.requires.frame c.requires.state in
    omega (arith, room.1, room.2)

pub returns-in_err-zeros_at-clause-spends : goal.returns-in_err-zeros_at-clause-spends
returns-in_err-zeros_at-clause-spends c =
    let t = c.args.self.now.decoder.table.now in
    let m = message c.args.self.now.decoder in
    let room = front_room t c.args.self.now.decoder.fine m c.args.frame c.args.first c.args.count c.row-row.result c.requires.left c.requires.some c.row-row.ensures.value (at_of c.args.state.now) c.requires.frame c.requires.state in
    spends_some _ _ _ (omega arith) (omega (arith, room.3, room.0))

pub returns-in_err-zeros_at-clause-fault_is_true : goal.returns-in_err-zeros_at-clause-fault_is_true
returns-in_err-zeros_at-clause-fault_is_true c =
    let t = c.args.self.now.decoder.table.now in
    let m = message c.args.self.now.decoder in
    passed_on c.from_residual.result c.in_err-zeros_at.field-0.0 _ c.from_residual.ensures.1 (front_gap_breaks t c.args.self.now.decoder.fine m c.args.frame c.args.first c.args.count c.row-row.result c.requires.left c.requires.some c.row-row.ensures.value (at_of c.args.state.now) c.requires.frame
    c.requires.state c.in_err-zeros_at.field-0.0 c.in_err-zeros_at.ensures.fault_is_true)

pub pass_numbers-requires-clause-kind : goal.pass_numbers-requires-clause-kind
pass_numbers-requires-clause-kind c = ap (λ (w : raw.Row). kind_of (entry_at c.args.self.now.decoder.table.now w.entry).kind) c.row-row.ensures.value ∙ c.requires.kind

pub pass_numbers-requires-clause-room : goal.pass_numbers-requires-clause-room
pass_numbers-requires-clause-room c =
    let t = c.args.self.now.decoder.table.now in
    let m = message c.args.self.now.decoder in
    let is : kind_of (entry_at t c.row-row.result.entry).kind ≡ Some Vector = ap (λ (w : raw.Row). kind_of (entry_at t w.entry).kind) c.row-row.ensures.value ∙ c.requires.kind in
    let room = front_room t c.args.self.now.decoder.fine m c.args.frame c.args.first c.args.count c.row-row.result c.requires.left c.requires.some c.row-row.ensures.value (at_of c.args.state.now) c.requires.frame c.requires.state in
    let size : 16 ≡ (entry_at t c.row-row.result.entry).size = size_as t c.args.self.now.decoder.fine c.row-row.result.entry Vector c.row-row.ensures.entry is in
    omega (arith, room.1, room.2, size)

pub returns-in_err-pass_numbers-clause-spends : goal.returns-in_err-pass_numbers-clause-spends
returns-in_err-pass_numbers-clause-spends c =
    let t = c.args.self.now.decoder.table.now in
    let m = message c.args.self.now.decoder in
    let room = front_room t c.args.self.now.decoder.fine m c.args.frame c.args.first c.args.count c.row-row.result c.requires.left c.requires.some c.row-row.ensures.value (at_of c.args.state.now) c.requires.frame c.requires.state in
    spends_some _ _ _ (omega (arith, (not_fewer _ _ _ c.in_err-pass_numbers.ensures.spends))) (omega (arith, room.3, room.0, c.in_err-pass_numbers.ensures.spends.most))

pub returns-in_err-pass_numbers-clause-fault_is_true : goal.returns-in_err-pass_numbers-clause-fault_is_true
returns-in_err-pass_numbers-clause-fault_is_true c =
    let t = c.args.self.now.decoder.table.now in
    let m = message c.args.self.now.decoder in
    passed_on c.from_residual-in_err-pass_numbers.result c.in_err-pass_numbers.field-0.0 _ c.from_residual-in_err-pass_numbers.ensures.1
    (front_breaks t c.args.self.now.decoder.fine m c.args.frame c.args.first c.args.count c.row-row.result c.requires.left c.requires.some c.row-row.ensures.value (at_of
    c.args.state.now) c.requires.frame c.requires.state c.in_err-pass_numbers.field-0.0 c.in_ok-zeros_at.ensures.ok c.in_err-pass_numbers.ensures.fault_is_true)

pub returns-clause-ok : goal.returns-clause-ok
returns-clause-ok c =
    let t = c.args.self.now.decoder.table.now in
    let m = message c.args.self.now.decoder in
    let grows = (not_fewer _ _ _ c.in_ok-pass_numbers.ensures.spends) in
    let two = front_turns t c.args.self.now.decoder.fine m c.args.frame c.args.first c.args.count c.row-row.result c.requires.left c.requires.some c.row-row.ensures.value (at_of c.args.state.now) c.requires.frame c.requires.state (at_of c.pass_numbers.new.state)
    (c.pass_numbers.new.state.steps - (c.args.state.now.steps + (c.args.frame.base + c.row-row.result.key - (c.args.frame.base + c.args.frame.done) +
    1))) (c.pass_numbers.new.state.steps - c.args.state.now.steps) (omega (arith, grows)) (omega (arith, grows)) c.in_ok-zeros_at.ensures.ok
    c.in_ok-pass_numbers.ensures.ok in
    subst (λ (w : raw.Row). Turns t m c.args.frame (at_of c.args.state.now) (at_of c.pass_numbers.new.state) (c.pass_numbers.new.state.steps - c.args.state.now.steps) (left_over (Some (going_on c.args.frame (Rows (c.args.first + 1) (c.args.count - 1)) (w.key + (entry_at t w.entry).size)))))
    c.row-row.ensures.value two

pub returns-clause-spends : goal.returns-clause-spends
returns-clause-spends c =
    let t = c.args.self.now.decoder.table.now in
    let m = message c.args.self.now.decoder in
    let room = front_room t c.args.self.now.decoder.fine m c.args.frame c.args.first c.args.count c.row-row.result c.requires.left c.requires.some c.row-row.ensures.value (at_of c.args.state.now) c.requires.frame c.requires.state in
    spends_some _ _ _ (omega (arith, (not_fewer _ _ _ c.in_ok-pass_numbers.ensures.spends))) (omega (arith, room.3, room.0, c.in_ok-pass_numbers.ensures.spends.most))

pub pass_numbers-requires-clause-free : goal.pass_numbers-requires-clause-free
pass_numbers-requires-clause-free c = ap (λ (w : raw.Row). is_free_at c.args.self.now.decoder.table.now (entry_at c.args.self.now.decoder.table.now w.entry).first) c.row-row.ensures.value ∙ c.requires.leaf

pub pass_numbers-requires-clause-state : goal.pass_numbers-requires-clause-state
pass_numbers-requires-clause-state c = c.requires.state

pub returns-clause-fault_is_true : goal.returns-clause-fault_is_true
returns-clause-fault_is_true c = tt

pub returns-in_err-zeros_at-clause-ok : goal.returns-in_err-zeros_at-clause-ok
returns-in_err-zeros_at-clause-ok c = no_ok c.from_residual.result c.in_err-zeros_at.field-0.0 _ c.from_residual.ensures.1

pub returns-in_err-pass_numbers-clause-ok : goal.returns-in_err-pass_numbers-clause-ok
returns-in_err-pass_numbers-clause-ok c = no_ok c.from_residual-in_err-pass_numbers.result c.in_err-pass_numbers.field-0.0 _ c.from_residual-in_err-pass_numbers.ensures.1

pub zeros_at-requires-clause-free : goal.zeros_at-requires-clause-free
zeros_at-requires-clause-free c =
    let t = c.args.self.now.decoder.table.now in
    let m = message c.args.self.now.decoder in
    first_free t c.args.self.now.decoder.fine m c.args.frame c.args.first c.args.count c.row-row.result c.requires.left c.requires.some c.row-row.ensures.value (at_of c.args.state.now) c.requires.frame c.requires.state c.requires.ready

pub pass_numbers-requires-clause-ready : goal.pass_numbers-requires-clause-ready
pass_numbers-requires-clause-ready c =
    let t = c.args.self.now.decoder.table.now in
    let m = message c.args.self.now.decoder in
    let is : kind_of (entry_at t c.row-row.result.entry).kind ≡ Some Vector = ap (λ (w : raw.Row). kind_of (entry_at t w.entry).kind) c.row-row.ensures.value ∙ c.requires.kind in
    place_of t c.args.self.now.decoder.fine m (at_of c.args.state.now) c.row-row.result.entry (c.args.frame.base + c.row-row.result.key) Vector c.row-row.ensures.entry is
    (first_ready t c.args.self.now.decoder.fine m c.args.frame c.args.first c.args.count c.row-row.result c.requires.left c.requires.some c.row-row.ensures.value (at_of c.args.state.now) c.requires.frame c.requires.state c.requires.ready)
