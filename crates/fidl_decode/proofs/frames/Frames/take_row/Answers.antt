use Rattle.fidl_decode_values.specs.Reading.{message}
use Rattle.std.proofs.Common.{◌≡◌, ◌+◌, ◌-◌, ◌≤◌, [], refl, sym, ap, subst, ◌∙◌, arith}
use Rattle.std.specs.Prelude.{Some}
use Rattle.fidl_table_format.specs.declared.record.Entry.{Entry}
use Rattle.fidl_table_format.specs.Section.{header_of, entry_at}
use Rattle.fidl_decode_model.specs.declared.frame.Frame.{Frame}
use Rattle.fidl_decode_model.specs.declared.frame.Remaining.{Remaining}
use Rattle.fidl_decode_model.specs.declared.frame.Remaining.TheVariants.{Rows}
use Rattle.fidl_decode_model.specs.Machine.{LeftFine, IsPlain, Turns, rows_left, at_of}
use Rattle.fidl_decode_values.proofs.Fitting.{next_fits, some_left, spends_some}
use Rattle.fidl_decode_model.proofs.Turning.{passed_on}
use Rattle.fidl_decode_columns.proofs.Leaves.{going_on}
use Rattle.fidl_decode.proofs.Front.{front_room, front_inside, front_takes, front_gap_breaks, front_breaks}
use Rattle.fidl_decode_values.proofs.ReadyRows.{first_free, first_ready}
use Rattle.fidl_decode.proofs.frames.Frames.take_row.Goals as goal

pub end_rows-requires-clause-plain : goal.end_rows-requires-clause-plain
end_rows-requires-clause-plain c =
    subst (λ (l : Remaining). IsPlain l) (sym c.requires.left) tt

pub end_rows-requires-clause-over : goal.end_rows-requires-clause-over
end_rows-requires-clause-over c =
    subst (λ (l : Remaining). rows_left c.args.self.now.decoder.table.now c.args.frame.done l ≡ []) (sym (c.requires.left ∙ ap (λ n. Rows c.args.first n) c.if-count-eq0.true)) refl

pub row-row-requires : goal.row-row-requires
row-row-requires c =
    let left : c.args.first + c.args.count ≤ (header_of c.args.self.now.decoder.table.now).rows = subst (λ (l : Remaining). LeftFine c.args.self.now.decoder.table.now l) c.requires.left c.requires.frame.left in
    omega (arith, left, some_left c.args.count c.if-count-eq0.false)

pub overflow_add-front : goal.overflow_add-front
overflow_add-front c =
    let room = front_room c.args.self.now.decoder.table.now c.args.self.now.decoder.fine (message c.args.self.now.decoder) c.args.frame c.args.first c.args.count c.row-row.result
    c.requires.left (some_left c.args.count c.if-count-eq0.false) c.row-row.ensures.value (at_of c.args.state.now) c.requires.frame c.requires.state in
    let before = room.0 in
    let fits = room.1 in
    let within = room.2 in
    record { fits = omega (arith, before, fits, within, c.args.self.now.decoder.short) }

pub overflow_add-place : goal.overflow_add-place
overflow_add-place c =
    let room = front_room c.args.self.now.decoder.table.now c.args.self.now.decoder.fine (message c.args.self.now.decoder) c.args.frame c.args.first c.args.count c.row-row.result
    c.requires.left (some_left c.args.count c.if-count-eq0.false) c.row-row.ensures.value (at_of c.args.state.now) c.requires.frame c.requires.state in
    let fits = room.1 in
    let within = room.2 in
    record { fits = omega (arith, fits, within, c.args.self.now.decoder.short) }

pub overflow_sub-state : goal.overflow_sub-state
overflow_sub-state c =
    let room = front_room c.args.self.now.decoder.table.now c.args.self.now.decoder.fine (message c.args.self.now.decoder) c.args.frame c.args.first c.args.count c.row-row.result
    c.requires.left (some_left c.args.count c.if-count-eq0.false) c.row-row.ensures.value (at_of c.args.state.now) c.requires.frame c.requires.state in
    let before = room.0 in
    omega (arith, before)

pub overflow_add-state : goal.overflow_add-state
overflow_add-state c =
    let room = front_room c.args.self.now.decoder.table.now c.args.self.now.decoder.fine (message c.args.self.now.decoder) c.args.frame c.args.first c.args.count c.row-row.result
    c.requires.left (some_left c.args.count c.if-count-eq0.false) c.row-row.ensures.value (at_of c.args.state.now) c.requires.frame c.requires.state in
    let fits = room.1 in
    let within = room.2 in
    record { fits = omega (arith, fits, within, c.args.self.now.decoder.short) }

pub overflow_add-state-2 : goal.overflow_add-state-2
overflow_add-state-2 c =
    let room = front_room c.args.self.now.decoder.table.now c.args.self.now.decoder.fine (message c.args.self.now.decoder) c.args.frame c.args.first c.args.count c.row-row.result
    c.requires.left (some_left c.args.count c.if-count-eq0.false) c.row-row.ensures.value (at_of c.args.state.now) c.requires.frame c.requires.state in
    let fits = room.1 in
    let within = room.2 in
    record { fits = omega (arith, fits, within, c.args.self.now.decoder.short, c.requires.budget) }

pub zeros_at-requires-clause-order : goal.zeros_at-requires-clause-order
zeros_at-requires-clause-order c =
    let room = front_room c.args.self.now.decoder.table.now c.args.self.now.decoder.fine (message c.args.self.now.decoder) c.args.frame c.args.first c.args.count c.row-row.result
    c.requires.left (some_left c.args.count c.if-count-eq0.false) c.row-row.ensures.value (at_of c.args.state.now) c.requires.frame c.requires.state in
    let before = room.0 in
    omega (arith, before)

pub zeros_at-requires-clause-room : goal.zeros_at-requires-clause-room
zeros_at-requires-clause-room c =
    let room = front_room c.args.self.now.decoder.table.now c.args.self.now.decoder.fine (message c.args.self.now.decoder) c.args.frame c.args.first c.args.count c.row-row.result
    c.requires.left (some_left c.args.count c.if-count-eq0.false) c.row-row.ensures.value (at_of c.args.state.now) c.requires.frame c.requires.state in
    let fits = room.1 in
    let within = room.2 in
    omega (arith, fits, within)

pub visit-requires-clause-room : goal.visit-requires-clause-room
visit-requires-clause-room c =
    let room = front_room c.args.self.now.decoder.table.now c.args.self.now.decoder.fine (message c.args.self.now.decoder) c.args.frame c.args.first c.args.count c.row-row.result
    c.requires.left (some_left c.args.count c.if-count-eq0.false) c.row-row.ensures.value (at_of c.args.state.now) c.requires.frame c.requires.state in
    let fits = room.1 in
    let within = room.2 in
    omega (arith, fits, within)

pub visit-requires-clause-in_envelope : goal.visit-requires-clause-in_envelope
visit-requires-clause-in_envelope c =
    front_inside c.args.self.now.decoder.table.now c.args.self.now.decoder.fine (message c.args.self.now.decoder) c.args.frame c.args.first c.args.count c.row-row.result
    c.requires.left (some_left c.args.count c.if-count-eq0.false) c.row-row.ensures.value (at_of c.args.state.now) c.requires.frame c.requires.state

pub visit-requires-clause-budget : goal.visit-requires-clause-budget
visit-requires-clause-budget c =
    let room = front_room c.args.self.now.decoder.table.now c.args.self.now.decoder.fine (message c.args.self.now.decoder) c.args.frame c.args.first c.args.count c.row-row.result
    c.requires.left (some_left c.args.count c.if-count-eq0.false) c.row-row.ensures.value (at_of c.args.state.now) c.requires.frame c.requires.state in
    let fits = room.1 in
    let within = room.2 in
    omega (arith, fits, within, c.args.self.now.decoder.short, c.requires.budget)

pub returns-in_err-zeros_at-clause-spends : goal.returns-in_err-zeros_at-clause-spends
returns-in_err-zeros_at-clause-spends c =
    let room = front_room c.args.self.now.decoder.table.now c.args.self.now.decoder.fine (message c.args.self.now.decoder) c.args.frame c.args.first c.args.count c.row-row.result
    c.requires.left (some_left c.args.count c.if-count-eq0.false) c.row-row.ensures.value (at_of c.args.state.now) c.requires.frame c.requires.state in
    let before = room.0 in
    let work = room.3 in
    spends_some _ _ _ (omega arith) (omega (arith, work, before))

pub returns-in_err-zeros_at-clause-fault_is_true : goal.returns-in_err-zeros_at-clause-fault_is_true
returns-in_err-zeros_at-clause-fault_is_true c =
    passed_on c.from_residual-in_err-zeros_at.result c.in_err-zeros_at.field-0.0 _ c.from_residual-in_err-zeros_at.ensures.1
    (front_gap_breaks c.args.self.now.decoder.table.now c.args.self.now.decoder.fine (message c.args.self.now.decoder) c.args.frame c.args.first c.args.count c.row-row.result
    c.requires.left (some_left c.args.count c.if-count-eq0.false) c.row-row.ensures.value (at_of c.args.state.now) c.requires.frame c.requires.state _ c.in_err-zeros_at.ensures.fault_is_true)

pub returns-in_err-below-clause-spends : goal.returns-in_err-below-clause-spends
returns-in_err-below-clause-spends c =
    let room = front_room c.args.self.now.decoder.table.now c.args.self.now.decoder.fine (message c.args.self.now.decoder) c.args.frame c.args.first c.args.count c.row-row.result
    c.requires.left (some_left c.args.count c.if-count-eq0.false) c.row-row.ensures.value (at_of c.args.state.now) c.requires.frame c.requires.state in
    let before = room.0 in
    let work = room.3 in
    let more = c.in_err-below.ensures.spends in
    spends_some _ _ _ (omega (arith, more.least)) (omega (arith, work, before, more.most))

pub returns-in_err-below-clause-fault_is_true : goal.returns-in_err-below-clause-fault_is_true
returns-in_err-below-clause-fault_is_true c =
    passed_on c.from_residual-in_err-below.result c.in_err-below.field-0.0 _ c.from_residual-in_err-below.ensures.1
    (front_breaks c.args.self.now.decoder.table.now c.args.self.now.decoder.fine (message c.args.self.now.decoder) c.args.frame c.args.first c.args.count c.row-row.result
    c.requires.left (some_left c.args.count c.if-count-eq0.false) c.row-row.ensures.value (at_of c.args.state.now) c.requires.frame c.requires.state _ c.in_ok-zeros_at.ensures.ok c.in_err-below.ensures.fault_is_true)

pub overflow_add-done : goal.overflow_add-done
overflow_add-done c =
    let room = front_room c.args.self.now.decoder.table.now c.args.self.now.decoder.fine (message c.args.self.now.decoder) c.args.frame c.args.first c.args.count c.row-row.result
    c.requires.left (some_left c.args.count c.if-count-eq0.false) c.row-row.ensures.value (at_of c.args.state.now) c.requires.frame c.requires.state in
    let fits = room.1 in
    let within = room.2 in
    let is = ap (λ (d : Entry). d.size) c.entry.ensures.value in
    record { fits = omega (arith, is, fits, within, c.args.self.now.decoder.short) }

pub overflow_add-first : goal.overflow_add-first
overflow_add-first c =
    record { fits = next_fits c.args.first c.args.count _ c.rows-rows.result _ (subst (λ (l : Remaining). LeftFine c.args.self.now.decoder.table.now l) c.requires.left c.requires.frame.left) c.rows-rows.ensures.value c.rows-rows.type_inv c.if-count-eq0.false }

pub overflow_sub-count : goal.overflow_sub-count
overflow_sub-count c =
    some_left c.args.count c.if-count-eq0.false

pub returns-clause-ok : goal.returns-clause-ok
returns-clause-ok c =
    let size : c.row-row.result.key + (entry_at c.args.self.now.decoder.table.now c.row-row.result.entry).size ≡ c.row-row.result.key + c.entry.result.size = ap (λ (d : Entry). c.row-row.result.key + d.size) (sym c.entry.ensures.value) in
    let more = c.in_ok-below.ensures.spends in
    let rest = going_on c.args.frame (Rows (c.args.first + 1) (c.args.count - 1)) in
    let taken = front_takes c.args.self.now.decoder.table.now c.args.self.now.decoder.fine (message c.args.self.now.decoder) c.args.frame c.args.first c.args.count c.row-row.result
    c.requires.left (some_left c.args.count c.if-count-eq0.false) c.row-row.ensures.value (at_of c.args.state.now) c.requires.frame c.requires.state
    c.in_ok-below.below (at_of c.visit.new.state) (c.visit.new.state.steps - (c.args.state.now.steps + (c.args.frame.base + c.row-row.result.key - (c.args.frame.base + c.args.frame.done) + 1))) (c.visit.new.state.steps - c.args.state.now.steps) (omega (arith, more.least)) (omega (arith, more.least))
    c.in_ok-zeros_at.ensures.ok c.in_ok-below.ensures.ok c.in_ok-below.ensures.fine in
    subst (λ (g : Frame). Turns c.args.self.now.decoder.table.now (message c.args.self.now.decoder) c.args.frame (at_of c.args.state.now) (at_of c.visit.new.state) (c.visit.new.state.steps - c.args.state.now.steps) (record { below = c.in_ok-below.below; rest = Some g }))
    (ap (λ d. rest d) size ∙ sym c.rows_from.ensures) taken

pub returns-clause-spends : goal.returns-clause-spends
returns-clause-spends c =
    let room = front_room c.args.self.now.decoder.table.now c.args.self.now.decoder.fine (message c.args.self.now.decoder) c.args.frame c.args.first c.args.count c.row-row.result
    c.requires.left (some_left c.args.count c.if-count-eq0.false) c.row-row.ensures.value (at_of c.args.state.now) c.requires.frame c.requires.state in
    let before = room.0 in
    let work = room.3 in
    let more = c.in_ok-below.ensures.spends in
    spends_some _ _ _ (omega (arith, more.least)) (omega (arith, work, before, more.most))

pub zeros_at-requires-clause-free : goal.zeros_at-requires-clause-free
zeros_at-requires-clause-free c =
    let t = c.args.self.now.decoder.table.now in
    let m = message c.args.self.now.decoder in
    first_free t c.args.self.now.decoder.fine m c.args.frame c.args.first c.args.count c.row-row.result c.requires.left (some_left c.args.count c.if-count-eq0.false) c.row-row.ensures.value (at_of c.args.state.now) c.requires.frame c.requires.state c.requires.ready

pub visit-requires-clause-ready : goal.visit-requires-clause-ready
visit-requires-clause-ready c =
    let t = c.args.self.now.decoder.table.now in
    let m = message c.args.self.now.decoder in
    first_ready t c.args.self.now.decoder.fine m c.args.frame c.args.first c.args.count c.row-row.result c.requires.left (some_left c.args.count c.if-count-eq0.false) c.row-row.ensures.value (at_of c.args.state.now) c.requires.frame c.requires.state c.requires.ready

pub rows_from-requires : goal.rows_from-requires
rows_from-requires c =
    let room = front_room c.args.self.now.decoder.table.now c.args.self.now.decoder.fine (message c.args.self.now.decoder) c.args.frame c.args.first c.args.count c.row-row.result
    c.requires.left (some_left c.args.count c.if-count-eq0.false) c.row-row.ensures.value (at_of c.args.state.now) c.requires.frame c.requires.state in
    let fits = room.1 in
    let within = room.2 in
    let is = ap (λ (d : Entry). d.size) c.entry.ensures.value in
    record { small = omega (arith, is, fits, within, c.args.self.now.decoder.short) }
