use Rattle.fidl_decode_values.specs.Reading.{message}
use Rattle.fidl_decode_values.proofs.Fitting.{spends_some}
use Rattle.fidl_decode_values.proofs.Unchanged.{no_ok}
use Rattle.std.proofs.Common.{◌≡◌, ◌+◌, ◌-◌, ◌≤◌, ap, subst, ◌∙◌, arith, inl, inr}
use Rattle.std.specs.Prelude.{Some}
use Rattle.fidl_table_format.specs.declared.record.Row as raw
use Rattle.fidl_table_format.specs.declared.kind.EntryKind.TheVariants.{Box}
use Rattle.fidl_table_format.specs.Kind.{kind_of}
use Rattle.fidl_table_format.specs.Section.{header_of, entry_at}
use Rattle.fidl_decode_model.specs.declared.frame.Remaining.{Remaining}
use Rattle.fidl_decode_model.specs.Machine.{LeftFine, at_of}
use Rattle.fidl_decode_model.proofs.Boxed.{box_breaks}
use Rattle.fidl_decode_model.proofs.Visiting.{size_as}
use Rattle.fidl_decode_model.proofs.Turning.{passed_on}
use Rattle.fidl_decode.proofs.Last.{last_room, last_gap_breaks, last_breaks, last_turns}
use Rattle.fidl_decode_values.proofs.ReadyRows.{first_free, first_ready, box_ready}
use Rattle.fidl_decode.proofs.frames.Frames.enter_box.Goals as goal

pub row-row-requires : goal.row-row-requires
row-row-requires c =
    let left : c.args.first + 1 ≤ (header_of c.args.self.now.decoder.table.now).rows = subst (λ (l : Remaining). LeftFine c.args.self.now.decoder.table.now l) c.requires.left c.requires.frame.left in
    omega (arith, left)

pub overflow_add-read : goal.overflow_add-read
overflow_add-read c =
    let t = c.args.self.now.decoder.table.now in
    let m = message c.args.self.now.decoder in
    let last = c.requires.left in
    let room = last_room t c.args.self.now.decoder.fine m c.args.frame c.args.first c.row-row.result last c.row-row.ensures.value (at_of c.args.state.now) c.requires.frame c.requires.state in
    record { fits = omega (arith, room.0, room.1, room.2, c.args.self.now.decoder.short) }

pub overflow_add-place : goal.overflow_add-place
overflow_add-place c =
    let t = c.args.self.now.decoder.table.now in
    let m = message c.args.self.now.decoder in
    let last = c.requires.left in
    let room = last_room t c.args.self.now.decoder.fine m c.args.frame c.args.first c.row-row.result last c.row-row.ensures.value (at_of c.args.state.now) c.requires.frame c.requires.state in
    record { fits = omega (arith, room.1, room.2, c.args.self.now.decoder.short) }

pub overflow_sub-state : goal.overflow_sub-state
overflow_sub-state c =
    let t = c.args.self.now.decoder.table.now in
    let m = message c.args.self.now.decoder in
    let last = c.requires.left in
    let room = last_room t c.args.self.now.decoder.fine m c.args.frame c.args.first c.row-row.result last c.row-row.ensures.value (at_of c.args.state.now) c.requires.frame c.requires.state in
    omega (arith, room.0)

pub overflow_add-state : goal.overflow_add-state
overflow_add-state c =
    let t = c.args.self.now.decoder.table.now in
    let m = message c.args.self.now.decoder in
    let last = c.requires.left in
    let room = last_room t c.args.self.now.decoder.fine m c.args.frame c.args.first c.row-row.result last c.row-row.ensures.value (at_of c.args.state.now) c.requires.frame c.requires.state in
    record { fits = omega (arith, room.1, room.2, c.args.self.now.decoder.short) }

pub overflow_add-state-2 : goal.overflow_add-state-2
overflow_add-state-2 c =
    let t = c.args.self.now.decoder.table.now in
    let m = message c.args.self.now.decoder in
    let last = c.requires.left in
    let room = last_room t c.args.self.now.decoder.fine m c.args.frame c.args.first c.row-row.result last c.row-row.ensures.value (at_of c.args.state.now) c.requires.frame c.requires.state in
    record { fits = omega (arith, room.1, room.2, c.args.self.now.decoder.short, c.requires.budget) }

pub zeros_at-requires-clause-order : goal.zeros_at-requires-clause-order
zeros_at-requires-clause-order c =
    let t = c.args.self.now.decoder.table.now in
    let m = message c.args.self.now.decoder in
    let last = c.requires.left in
    let room = last_room t c.args.self.now.decoder.fine m c.args.frame c.args.first c.row-row.result last c.row-row.ensures.value (at_of c.args.state.now) c.requires.frame c.requires.state in
    omega (arith, room.0)

pub zeros_at-requires-clause-room : goal.zeros_at-requires-clause-room
zeros_at-requires-clause-room c =
    let t = c.args.self.now.decoder.table.now in
    let m = message c.args.self.now.decoder in
    let last = c.requires.left in
    let room = last_room t c.args.self.now.decoder.fine m c.args.frame c.args.first c.row-row.result last c.row-row.ensures.value (at_of c.args.state.now) c.requires.frame c.requires.state in
    omega (arith, room.1, room.2)

pub returns-in_err-zeros_at-clause-spends : goal.returns-in_err-zeros_at-clause-spends
returns-in_err-zeros_at-clause-spends c =
    let t = c.args.self.now.decoder.table.now in
    let m = message c.args.self.now.decoder in
    let last = c.requires.left in
    let room = last_room t c.args.self.now.decoder.fine m c.args.frame c.args.first c.row-row.result last c.row-row.ensures.value (at_of c.args.state.now) c.requires.frame c.requires.state in
    spends_some _ _ _ (omega arith) (omega (arith, room.3, room.0))

pub returns-in_err-zeros_at-clause-fault_is_true : goal.returns-in_err-zeros_at-clause-fault_is_true
returns-in_err-zeros_at-clause-fault_is_true c =
    let t = c.args.self.now.decoder.table.now in
    let m = message c.args.self.now.decoder in
    let last = c.requires.left in
    passed_on c.from_residual.result c.in_err-zeros_at.field-0.0 _ c.from_residual.ensures.1
    (last_gap_breaks t c.args.self.now.decoder.fine m c.args.frame c.args.first c.row-row.result last c.row-row.ensures.value (at_of c.args.state.now)
    c.requires.frame c.requires.state c.in_err-zeros_at.field-0.0 c.in_err-zeros_at.ensures.fault_is_true)

pub read_box-requires-clause-room : goal.read_box-requires-clause-room
read_box-requires-clause-room c =
    let t = c.args.self.now.decoder.table.now in
    let m = message c.args.self.now.decoder in
    let last = c.requires.left in
    let is : kind_of (entry_at t c.row-row.result.entry).kind ≡ Some Box = ap (λ (w : raw.Row). kind_of (entry_at t w.entry).kind) c.row-row.ensures.value ∙ c.requires.kind in
    let room = last_room t c.args.self.now.decoder.fine m c.args.frame c.args.first c.row-row.result last c.row-row.ensures.value (at_of c.args.state.now) c.requires.frame c.requires.state in
    let size : 8 ≡ (entry_at t c.row-row.result.entry).size = size_as t c.args.self.now.decoder.fine c.row-row.result.entry Box c.row-row.ensures.entry is in
    omega (arith, room.1, room.2, size)

pub returns-in_err-below-clause-spends : goal.returns-in_err-below-clause-spends
returns-in_err-below-clause-spends c =
    let t = c.args.self.now.decoder.table.now in
    let m = message c.args.self.now.decoder in
    let last = c.requires.left in
    let room = last_room t c.args.self.now.decoder.fine m c.args.frame c.args.first c.row-row.result last c.row-row.ensures.value (at_of c.args.state.now) c.requires.frame c.requires.state in
    let still = c.in_err-below.ensures.steps in
    spends_some _ _ _ (omega arith) (omega (arith, still, room.3, room.0))

pub returns-in_err-below-clause-fault_is_true : goal.returns-in_err-below-clause-fault_is_true
returns-in_err-below-clause-fault_is_true c =
    let t = c.args.self.now.decoder.table.now in
    let m = message c.args.self.now.decoder in
    let last = c.requires.left in
    let is : kind_of (entry_at t c.row-row.result.entry).kind ≡ Some Box = ap (λ (w : raw.Row). kind_of (entry_at t w.entry).kind) c.row-row.ensures.value ∙ c.requires.kind in
    passed_on c.from_residual-in_err-below.result c.in_err-below.field-0.0 _ c.from_residual-in_err-below.ensures.1
    (last_breaks t c.args.self.now.decoder.fine m c.args.frame c.args.first c.row-row.result last c.row-row.ensures.value (at_of c.args.state.now)
    c.requires.frame c.requires.state c.in_err-below.field-0.0 c.in_ok-zeros_at.ensures.ok
    (box_breaks t c.args.self.now.decoder.fine m c.args.frame.depth c.row-row.result.entry (c.args.frame.base + c.row-row.result.key)
    (at_of c.args.state.now) c.row-row.ensures.entry is c.requires.state c.requires.frame.depth c.in_err-below.field-0.0
    c.in_err-below.ensures.fault_is_true))

pub returns-clause-ok : goal.returns-clause-ok
returns-clause-ok c =
    let t = c.args.self.now.decoder.table.now in
    let m = message c.args.self.now.decoder in
    let last = c.requires.left in
    let still = c.in_ok-below.ensures.steps in
    let whole : c.row-row.result.key + (entry_at t c.row-row.result.entry).size ≡ c.args.frame.size = ap (λ (w : raw.Row). w.key + (entry_at t w.entry).size) c.row-row.ensures.value ∙ c.requires.whole in
    let few : c.args.frame.in_envelope ≤ 1 = elim c.requires.frame.in_envelope [ inl out ↦ omega (arith, out) | inr own ↦ (let one = own.0 in omega (arith, one)) ] in
    last_turns t c.args.self.now.decoder.fine m c.args.frame c.args.first c.row-row.result last c.row-row.ensures.value (at_of c.args.state.now)
    c.requires.frame c.requires.state (at_of c.read_box.new.state) (c.read_box.new.state.steps -
    (c.args.state.now.steps + (c.args.frame.base + c.row-row.result.key - (c.args.frame.base + c.args.frame.done) + 1)))
    (c.read_box.new.state.steps - c.args.state.now.steps) whole (omega (arith, still)) (omega (arith, still)) c.in_ok-zeros_at.ensures.ok
    c.in_ok-below.below c.in_ok-below.ensures.ok (c.in_ok-below.ensures.fine c.args.frame.in_envelope few)

pub returns-clause-spends : goal.returns-clause-spends
returns-clause-spends c =
    let t = c.args.self.now.decoder.table.now in
    let m = message c.args.self.now.decoder in
    let last = c.requires.left in
    let room = last_room t c.args.self.now.decoder.fine m c.args.frame c.args.first c.row-row.result last c.row-row.ensures.value (at_of c.args.state.now) c.requires.frame c.requires.state in
    let still = c.in_ok-below.ensures.steps in
    spends_some _ _ _ (omega arith) (omega (arith, still, room.3, room.0))

pub read_box-requires-clause-kind : goal.read_box-requires-clause-kind
read_box-requires-clause-kind c =
    let t = c.args.self.now.decoder.table.now in
    let is : kind_of (entry_at t c.row-row.result.entry).kind ≡ Some Box = ap (λ (w : raw.Row). kind_of (entry_at t w.entry).kind) c.row-row.ensures.value ∙ c.requires.kind in
    is

pub returns-in_err-zeros_at-clause-ok : goal.returns-in_err-zeros_at-clause-ok
returns-in_err-zeros_at-clause-ok c = no_ok c.from_residual.result c.in_err-zeros_at.field-0.0 _ c.from_residual.ensures.1

pub read_box-requires-clause-state : goal.read_box-requires-clause-state
read_box-requires-clause-state c = c.requires.state

pub returns-in_err-below-clause-ok : goal.returns-in_err-below-clause-ok
returns-in_err-below-clause-ok c = no_ok c.from_residual-in_err-below.result c.in_err-below.field-0.0 _ c.from_residual-in_err-below.ensures.1

pub returns-clause-fault_is_true : goal.returns-clause-fault_is_true
returns-clause-fault_is_true c = tt

pub zeros_at-requires-clause-free : goal.zeros_at-requires-clause-free
zeros_at-requires-clause-free c =
    let t = c.args.self.now.decoder.table.now in
    let m = message c.args.self.now.decoder in
    first_free t c.args.self.now.decoder.fine m c.args.frame c.args.first 1 c.row-row.result c.requires.left (omega arith) c.row-row.ensures.value (at_of c.args.state.now) c.requires.frame c.requires.state c.requires.ready

pub read_box-requires-clause-ready : goal.read_box-requires-clause-ready
read_box-requires-clause-ready c =
    let t = c.args.self.now.decoder.table.now in
    let m = message c.args.self.now.decoder in
    let is : kind_of (entry_at t c.row-row.result.entry).kind ≡ Some Box = ap (λ (w : raw.Row). kind_of (entry_at t w.entry).kind) c.row-row.ensures.value ∙ c.requires.kind in
    box_ready t c.args.self.now.decoder.fine m (at_of c.args.state.now) c.row-row.result.entry _ c.row-row.ensures.entry is
    (first_ready t c.args.self.now.decoder.fine m c.args.frame c.args.first 1 c.row-row.result c.requires.left (omega arith) c.row-row.ensures.value
    (at_of c.args.state.now) c.requires.frame c.requires.state c.requires.ready)
