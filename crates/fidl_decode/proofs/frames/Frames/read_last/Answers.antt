use Rattle.fidl_decode_values.specs.Reading.{message}
use Rattle.fidl_decode_values.proofs.Fitting.{not_fewer}
use Rattle.std.proofs.Common.{◌≡◌, refl, ◌+◌, ◌-◌, ◌≤◌, ap, subst, ◌∙◌, arith}
use Rattle.fidl_table_format.specs.declared.record.Entry.{Entry}
use Rattle.fidl_table_format.specs.Section.{header_of}
use Rattle.fidl_decode_model.specs.declared.frame.Remaining.{Remaining}
use Rattle.fidl_decode_model.specs.declared.frame.Remaining.TheVariants.{Rows}
use Rattle.fidl_decode_model.specs.Machine.{LeftFine, Turns, at_of}
use Rattle.std.specs.Prelude.{Some}
use Rattle.fidl_decode_values.proofs.Unchanged.{if_none}
use Rattle.fidl_decode_columns.proofs.Leaves.{left_over, turns_start, turns_stay}
use Rattle.fidl_decode_model.proofs.Turning.{passed_on}
use Rattle.fidl_decode.proofs.Last.{last_room, last_inside, last_gap_breaks, last_breaks, last_turns}
use Rattle.fidl_decode_values.proofs.ReadyRows.{first_free, first_ready}
use Rattle.fidl_decode.proofs.frames.Frames.read_last.Goals as goal

pub row-row-requires : goal.row-row-requires
row-row-requires c =
    let left : c.args.first + c.args.count ≤ (header_of c.args.self.now.decoder.table.now).rows = subst (λ (l : Remaining). LeftFine c.args.self.now.decoder.table.now l) c.requires.left c.requires.frame.left in
    omega (arith, left, c.if-count-ne1.false)

pub overflow_add-read : goal.overflow_add-read
overflow_add-read c =
    let t = c.args.self.now.decoder.table.now in
    let m = message c.args.self.now.decoder in
    let last : c.args.frame.left ≡ Rows c.args.first 1 = c.requires.left ∙ ap (λ n. Rows c.args.first n) c.if-count-ne1.false in
    let room = last_room t c.args.self.now.decoder.fine m c.args.frame c.args.first c.row-row.result last c.row-row.ensures.value (at_of c.args.state.now) c.requires.frame c.requires.state in
    record { fits = omega (arith, room.0, room.1, room.2, c.args.self.now.decoder.short) }

pub overflow_add-place : goal.overflow_add-place
overflow_add-place c =
    let t = c.args.self.now.decoder.table.now in
    let m = message c.args.self.now.decoder in
    let last : c.args.frame.left ≡ Rows c.args.first 1 = c.requires.left ∙ ap (λ n. Rows c.args.first n) c.if-count-ne1.false in
    let room = last_room t c.args.self.now.decoder.fine m c.args.frame c.args.first c.row-row.result last c.row-row.ensures.value (at_of c.args.state.now) c.requires.frame c.requires.state in
    record { fits = omega (arith, room.1, room.2, c.args.self.now.decoder.short) }

pub overflow_sub-state : goal.overflow_sub-state
overflow_sub-state c =
    let t = c.args.self.now.decoder.table.now in
    let m = message c.args.self.now.decoder in
    let last : c.args.frame.left ≡ Rows c.args.first 1 = c.requires.left ∙ ap (λ n. Rows c.args.first n) c.if-count-ne1.false in
    let room = last_room t c.args.self.now.decoder.fine m c.args.frame c.args.first c.row-row.result last c.row-row.ensures.value (at_of c.args.state.now) c.requires.frame c.requires.state in
    omega (arith, room.0)

pub overflow_add-state : goal.overflow_add-state
overflow_add-state c =
    let t = c.args.self.now.decoder.table.now in
    let m = message c.args.self.now.decoder in
    let last : c.args.frame.left ≡ Rows c.args.first 1 = c.requires.left ∙ ap (λ n. Rows c.args.first n) c.if-count-ne1.false in
    let room = last_room t c.args.self.now.decoder.fine m c.args.frame c.args.first c.row-row.result last c.row-row.ensures.value (at_of c.args.state.now) c.requires.frame c.requires.state in
    record { fits = omega (arith, room.1, room.2, c.args.self.now.decoder.short) }

pub overflow_add-state-2 : goal.overflow_add-state-2
overflow_add-state-2 c =
    let t = c.args.self.now.decoder.table.now in
    let m = message c.args.self.now.decoder in
    let last : c.args.frame.left ≡ Rows c.args.first 1 = c.requires.left ∙ ap (λ n. Rows c.args.first n) c.if-count-ne1.false in
    let room = last_room t c.args.self.now.decoder.fine m c.args.frame c.args.first c.row-row.result last c.row-row.ensures.value (at_of c.args.state.now) c.requires.frame c.requires.state in
    record { fits = omega (arith, room.1, room.2, c.args.self.now.decoder.short, c.requires.budget) }

pub zeros_at-requires-clause-order : goal.zeros_at-requires-clause-order
zeros_at-requires-clause-order c =
    let t = c.args.self.now.decoder.table.now in
    let m = message c.args.self.now.decoder in
    let last : c.args.frame.left ≡ Rows c.args.first 1 = c.requires.left ∙ ap (λ n. Rows c.args.first n) c.if-count-ne1.false in
    let room = last_room t c.args.self.now.decoder.fine m c.args.frame c.args.first c.row-row.result last c.row-row.ensures.value (at_of c.args.state.now) c.requires.frame c.requires.state in
    omega (arith, room.0)

pub zeros_at-requires-clause-room : goal.zeros_at-requires-clause-room
zeros_at-requires-clause-room c =
    let t = c.args.self.now.decoder.table.now in
    let m = message c.args.self.now.decoder in
    let last : c.args.frame.left ≡ Rows c.args.first 1 = c.requires.left ∙ ap (λ n. Rows c.args.first n) c.if-count-ne1.false in
    let room = last_room t c.args.self.now.decoder.fine m c.args.frame c.args.first c.row-row.result last c.row-row.ensures.value (at_of c.args.state.now) c.requires.frame c.requires.state in
    omega (arith, room.1, room.2)

pub returns-in_err-zeros_at-clause-cost : goal.returns-in_err-zeros_at-clause-cost
returns-in_err-zeros_at-clause-cost c =
    let t = c.args.self.now.decoder.table.now in
    let m = message c.args.self.now.decoder in
    let last : c.args.frame.left ≡ Rows c.args.first 1 = c.requires.left ∙ ap (λ n. Rows c.args.first n) c.if-count-ne1.false in
    let room = last_room t c.args.self.now.decoder.fine m c.args.frame c.args.first c.row-row.result last c.row-row.ensures.value (at_of c.args.state.now) c.requires.frame c.requires.state in
    omega (arith, room.3, room.0)

pub returns-in_err-zeros_at-clause-fault_is_true : goal.returns-in_err-zeros_at-clause-fault_is_true
returns-in_err-zeros_at-clause-fault_is_true c =
    let t = c.args.self.now.decoder.table.now in
    let m = message c.args.self.now.decoder in
    let last : c.args.frame.left ≡ Rows c.args.first 1 = c.requires.left ∙ ap (λ n. Rows c.args.first n) c.if-count-ne1.false in
    passed_on c.from_residual.result c.in_err-zeros_at.field-0.0 _ c.from_residual.ensures.1
    (last_gap_breaks t c.args.self.now.decoder.fine m c.args.frame c.args.first c.row-row.result last c.row-row.ensures.value (at_of c.args.state.now)
    c.requires.frame c.requires.state c.in_err-zeros_at.field-0.0 c.in_err-zeros_at.ensures.fault_is_true)

pub visit-requires-clause-room : goal.visit-requires-clause-room
visit-requires-clause-room c =
    let t = c.args.self.now.decoder.table.now in
    let m = message c.args.self.now.decoder in
    let last : c.args.frame.left ≡ Rows c.args.first 1 = c.requires.left ∙ ap (λ n. Rows c.args.first n) c.if-count-ne1.false in
    let room = last_room t c.args.self.now.decoder.fine m c.args.frame c.args.first c.row-row.result last c.row-row.ensures.value (at_of c.args.state.now) c.requires.frame c.requires.state in
    omega (arith, room.1, room.2)

pub visit-requires-clause-in_envelope : goal.visit-requires-clause-in_envelope
visit-requires-clause-in_envelope c =
    let t = c.args.self.now.decoder.table.now in
    let m = message c.args.self.now.decoder in
    let last : c.args.frame.left ≡ Rows c.args.first 1 = c.requires.left ∙ ap (λ n. Rows c.args.first n) c.if-count-ne1.false in
    last_inside t c.args.self.now.decoder.fine m c.args.frame c.args.first c.row-row.result last c.row-row.ensures.value (at_of c.args.state.now) c.requires.frame c.requires.state

pub visit-requires-clause-budget : goal.visit-requires-clause-budget
visit-requires-clause-budget c =
    let t = c.args.self.now.decoder.table.now in
    let m = message c.args.self.now.decoder in
    let last : c.args.frame.left ≡ Rows c.args.first 1 = c.requires.left ∙ ap (λ n. Rows c.args.first n) c.if-count-ne1.false in
    let room = last_room t c.args.self.now.decoder.fine m c.args.frame c.args.first c.row-row.result last c.row-row.ensures.value (at_of c.args.state.now) c.requires.frame c.requires.state in
    omega (arith, room.1, room.2, c.args.self.now.decoder.short, c.requires.budget)

pub returns-in_err-below-clause-cost : goal.returns-in_err-below-clause-cost
returns-in_err-below-clause-cost c =
    let t = c.args.self.now.decoder.table.now in
    let m = message c.args.self.now.decoder in
    let last : c.args.frame.left ≡ Rows c.args.first 1 = c.requires.left ∙ ap (λ n. Rows c.args.first n) c.if-count-ne1.false in
    let room = last_room t c.args.self.now.decoder.fine m c.args.frame c.args.first c.row-row.result last c.row-row.ensures.value (at_of c.args.state.now) c.requires.frame c.requires.state in
    let probed = c.in_err-below.ensures.spends.most in
    omega (arith, probed, room.3, room.0)

pub returns-in_err-below-clause-fault_is_true : goal.returns-in_err-below-clause-fault_is_true
returns-in_err-below-clause-fault_is_true c =
    let t = c.args.self.now.decoder.table.now in
    let m = message c.args.self.now.decoder in
    let last : c.args.frame.left ≡ Rows c.args.first 1 = c.requires.left ∙ ap (λ n. Rows c.args.first n) c.if-count-ne1.false in
    passed_on c.from_residual-in_err-below.result c.in_err-below.field-0.0 _ c.from_residual-in_err-below.ensures.1
    (last_breaks t c.args.self.now.decoder.fine m c.args.frame c.args.first c.row-row.result last c.row-row.ensures.value (at_of c.args.state.now)
    c.requires.frame c.requires.state c.in_err-below.field-0.0 c.in_ok-zeros_at.ensures.ok c.in_err-below.ensures.fault_is_true)

pub returns-clause-ok : goal.returns-clause-ok
returns-clause-ok c =
    let t = c.args.self.now.decoder.table.now in
    let m = message c.args.self.now.decoder in
    let last : c.args.frame.left ≡ Rows c.args.first 1 = c.requires.left ∙ ap (λ n. Rows c.args.first n) c.if-count-ne1.false in
    let grows = (not_fewer _ _ _ c.in_ok-below.ensures.spends) in
    let size = ap (λ (d : Entry). d.size) c.entry-e.ensures.value in
    last_turns t c.args.self.now.decoder.fine m c.args.frame c.args.first c.row-row.result last c.row-row.ensures.value (at_of c.args.state.now)
    c.requires.frame c.requires.state (at_of c.visit.new.state) (c.visit.new.state.steps -
    (c.args.state.now.steps + (c.args.frame.base + c.row-row.result.key - (c.args.frame.base + c.args.frame.done) + 1)))
    (c.visit.new.state.steps - c.args.state.now.steps) (omega (arith, size, c.if-done-frame.false)) (omega (arith, grows)) (omega (arith, grows))
    c.in_ok-zeros_at.ensures.ok c.in_ok-below.below c.in_ok-below.ensures.ok c.in_ok-below.ensures.fine

pub returns-clause-grows : goal.returns-clause-grows
returns-clause-grows c =
    let grows = (not_fewer _ _ _ c.in_ok-below.ensures.spends) in
    omega (arith, grows)

pub returns-clause-cost : goal.returns-clause-cost
returns-clause-cost c =
    let t = c.args.self.now.decoder.table.now in
    let m = message c.args.self.now.decoder in
    let last : c.args.frame.left ≡ Rows c.args.first 1 = c.requires.left ∙ ap (λ n. Rows c.args.first n) c.if-count-ne1.false in
    let room = last_room t c.args.self.now.decoder.fine m c.args.frame c.args.first c.row-row.result last c.row-row.ensures.value (at_of c.args.state.now) c.requires.frame c.requires.state in
    let probed = c.in_ok-below.ensures.spends.most in
    omega (arith, probed, room.3, room.0)

pub returns-then-done-frame-clause-ok : goal.returns-then-done-frame-clause-ok
returns-then-done-frame-clause-ok c =
    let t = c.args.self.now.decoder.table.now in
    let m = message c.args.self.now.decoder in
    let none : 0 ≡ c.args.state.now.steps - c.args.state.now.steps = omega arith in
    subst (λ n. Turns t m c.args.frame (at_of c.args.state.now) (at_of c.args.state.now) n (left_over (Some c.args.frame))) none (turns_start t m c.args.frame (at_of c.args.state.now) c.requires.frame c.requires.state c.args.frame refl)

pub returns-clause-ended : goal.returns-clause-ended
returns-clause-ended c =
    let grows = (not_fewer _ _ _ c.in_ok-below.ensures.spends) in
    if_none c.in_ok-below.below _ (omega (arith, grows))

pub returns-then-count-ne1-clause-ok : goal.returns-then-count-ne1-clause-ok
returns-then-count-ne1-clause-ok c = turns_stay c.args.self.now.decoder.table.now (message c.args.self.now.decoder) c.args.frame (at_of c.args.state.now) c.requires.frame c.requires.state _ (omega arith)

pub zeros_at-requires-clause-free : goal.zeros_at-requires-clause-free
zeros_at-requires-clause-free c =
    let t = c.args.self.now.decoder.table.now in
    let m = message c.args.self.now.decoder in
    let last : c.args.frame.left ≡ Rows c.args.first 1 = c.requires.left ∙ ap (λ n. Rows c.args.first n) c.if-count-ne1.false in
    first_free t c.args.self.now.decoder.fine m c.args.frame c.args.first 1 c.row-row.result last (omega arith) c.row-row.ensures.value (at_of c.args.state.now) c.requires.frame c.requires.state c.requires.ready

pub visit-requires-clause-ready : goal.visit-requires-clause-ready
visit-requires-clause-ready c =
    let t = c.args.self.now.decoder.table.now in
    let m = message c.args.self.now.decoder in
    let last : c.args.frame.left ≡ Rows c.args.first 1 = c.requires.left ∙ ap (λ n. Rows c.args.first n) c.if-count-ne1.false in
    first_ready t c.args.self.now.decoder.fine m c.args.frame c.args.first 1 c.row-row.result last (omega arith) c.row-row.ensures.value (at_of c.args.state.now) c.requires.frame c.requires.state c.requires.ready
