use Rattle.fidl_decode_values.specs.Reading.{message}
use Rattle.std.proofs.Common.{◌≡◌, ℕ, ◌+◌, ◌-◌, ◌≤◌, sym, ap, subst, ◌∙◌, arith}
use Rattle.std.specs.Prelude.{Option, Some, None}
use Rattle.fidl_decode_model.specs.declared.frame.Turn.{Turn}
use Rattle.fidl_table_format.specs.declared.record.Entry.{Entry}
use Rattle.fidl_decode_model.specs.declared.frame.Frame.{Frame}
use Rattle.fidl_decode_model.specs.declared.frame.Remaining.TheVariants.{Elements}
use Rattle.fidl_decode_model.specs.Invariants.{AreLeaves}
use Rattle.fidl_decode_model.specs.Machine.{Turns, at_of}
use Rattle.fidl_table_format.specs.Section.{header_of}
use Rattle.fidl_table_format.specs.declared.kind.EntryKind.TheVariants.{Struct}
use Rattle.fidl_decode_model.proofs.Visiting.{fine_as}
use Rattle.fidl_decode_model.proofs.Holding.{struct_frame}
use Rattle.fidl_decode_model.proofs.Turning.{passed_on}
use Rattle.fidl_decode_columns.proofs.Leaves.{going_on, left_over, same_frame, turns_start, turns_below, turns_over, below_breaks, over_room, over_turns, over_breaks, elements_over}
use Rattle.fidl_decode_values.proofs.ReadyRows.{over_free}
use Rattle.fidl_decode.proofs.Structs.{struct_room, struct_taken}
use Rattle.fidl_decode.proofs.frames.Frames.read_structs.Goals as goal

pub overflow_add-place : goal.overflow_add-place
overflow_add-place g c =
    let room = struct_room c.args.self.now.decoder.table.now c.args.self.now.decoder.fine (message c.args.self.now.decoder) c.args.frame (at_of c.args.state.now) (at_of c.loop-i.state) (c.loop-i.state.steps - c.args.state.now.steps)
    c.args.entry c.args.size c.args.count c.loop-i.i c.loop-i.done c.loop-i.invariant.turns c.loop-i-test.true in
    record { fits = omega (arith, room.1, room.2) }

pub plain_rows-plain-requires : goal.plain_rows-plain-requires
plain_rows-plain-requires g c =
    let t = c.args.self.now.decoder.table.now in
    let within = (fine_as t c.args.self.now.decoder.fine c.args.entry Struct c.requires.entry c.requires.kind).content.0 in
    record { within = subst (λ (d : Entry). d.first + d.count ≤ (header_of t).rows) (sym c.entry-e.ensures.value) within }

pub plain_below-known-requires : goal.plain_below-known-requires
plain_below-known-requires g c =
    let t = c.args.self.now.decoder.table.now in
    let within = (fine_as t c.args.self.now.decoder.fine c.args.entry Struct c.requires.entry c.requires.kind).content.0 in
    record { within = subst (λ (d : Entry). d.first + d.count ≤ (header_of t).rows) (sym c.entry-e.ensures.value) within }

pub read_struct_element-requires-clause-frame : goal.read_struct_element-requires-clause-frame
read_struct_element-requires-clause-frame g c =
    let so_far = c.loop-i.invariant.steps in
    let taken = struct_taken c.args.self.now.decoder.table.now c.args.self.now.decoder.fine (message c.args.self.now.decoder) c.args.frame (at_of c.args.state.now) (at_of c.loop-i.state) (c.loop-i.state.steps - c.args.state.now.steps)
    c.args.entry c.args.size c.args.count c.loop-i.i c.loop-i.done c.loop-i.invariant.turns c.loop-i-test.true
    c.entry-e.result c.entry-e.ensures.value c.requires.entry c.requires.kind c.requires.frame (c.loop-i.state.steps + 1 - c.args.state.now.steps) (omega (arith, so_far)) in
    taken.below_fine.0

pub read_struct_element-requires-clause-state : goal.read_struct_element-requires-clause-state
read_struct_element-requires-clause-state g c =
    let so_far = c.loop-i.invariant.steps in
    let taken = struct_taken c.args.self.now.decoder.table.now c.args.self.now.decoder.fine (message c.args.self.now.decoder) c.args.frame (at_of c.args.state.now) (at_of c.loop-i.state) (c.loop-i.state.steps - c.args.state.now.steps)
    c.args.entry c.args.size c.args.count c.loop-i.i c.loop-i.done c.loop-i.invariant.turns c.loop-i-test.true
    c.entry-e.result c.entry-e.ensures.value c.requires.entry c.requires.kind c.requires.frame (c.loop-i.state.steps + 1 - c.args.state.now.steps) (omega (arith, so_far)) in
    taken.state

pub read_struct_element-requires-clause-budget : goal.read_struct_element-requires-clause-budget
read_struct_element-requires-clause-budget g c =
    let so_far = c.loop-i.invariant.steps in
    let taken = struct_taken c.args.self.now.decoder.table.now c.args.self.now.decoder.fine (message c.args.self.now.decoder) c.args.frame (at_of c.args.state.now) (at_of c.loop-i.state) (c.loop-i.state.steps - c.args.state.now.steps)
    c.args.entry c.args.size c.args.count c.loop-i.i c.loop-i.done c.loop-i.invariant.turns c.loop-i-test.true
    c.entry-e.result c.entry-e.ensures.value c.requires.entry c.requires.kind c.requires.frame (c.loop-i.state.steps + 1 - c.args.state.now.steps) (omega (arith, so_far)) in
    let less = taken.less in
    omega (arith, less, so_far, c.requires.budget)

pub returns-in_err-found-clause-cost : goal.returns-in_err-found-clause-cost
returns-in_err-found-clause-cost g c =
    let so_far = c.loop-i.invariant.steps in
    let taken = struct_taken c.args.self.now.decoder.table.now c.args.self.now.decoder.fine (message c.args.self.now.decoder) c.args.frame (at_of c.args.state.now) (at_of c.loop-i.state) (c.loop-i.state.steps - c.args.state.now.steps)
    c.args.entry c.args.size c.args.count c.loop-i.i c.loop-i.done c.loop-i.invariant.turns c.loop-i-test.true
    c.entry-e.result c.entry-e.ensures.value c.requires.entry c.requires.kind c.requires.frame (c.loop-i.state.steps + 1 - c.args.state.now.steps) (omega (arith, so_far)) in
    let less = taken.less in
    omega (arith, less, so_far, c.in_err-found.ensures.cost)

pub overflow_add-done : goal.overflow_add-done
overflow_add-done g c =
    let room = struct_room c.args.self.now.decoder.table.now c.args.self.now.decoder.fine (message c.args.self.now.decoder) c.args.frame (at_of c.args.state.now) (at_of c.loop-i.state) (c.loop-i.state.steps - c.args.state.now.steps)
    c.args.entry c.args.size c.args.count c.loop-i.i c.loop-i.done c.loop-i.invariant.turns c.loop-i-test.true in
    record { fits = omega (arith, room.1, room.2) }

pub read_rest-requires-clause-frame : goal.read_rest-requires-clause-frame
read_rest-requires-clause-frame g c =
    let so_far = c.loop-i.invariant.steps in
    let taken = struct_taken c.args.self.now.decoder.table.now c.args.self.now.decoder.fine (message c.args.self.now.decoder) c.args.frame (at_of c.args.state.now) (at_of c.loop-i.state) (c.loop-i.state.steps - c.args.state.now.steps)
    c.args.entry c.args.size c.args.count c.loop-i.i c.loop-i.done c.loop-i.invariant.turns c.loop-i-test.true
    c.entry-e.result c.entry-e.ensures.value c.requires.entry c.requires.kind c.requires.frame (c.loop-i.state.steps + 1 - c.args.state.now.steps) (omega (arith, so_far)) in
    let on = c.in_ok-found.ensures.grows in
    let read = subst (λ (o : Option Frame). Turns c.args.self.now.decoder.table.now (message c.args.self.now.decoder)
    (struct_frame c.entry-e.result (c.args.frame.base + c.loop-i.done) c.args.frame.depth c.args.frame.in_envelope) (at_of c.loop-i.state)
    (at_of c.read_struct_element.new.state) (c.read_struct_element.new.state.steps - (c.loop-i.state.steps + 1)) (left_over o)) c.in-Some.is
    c.in_ok-found.ensures.ok in
    let held : Turns c.args.self.now.decoder.table.now (message c.args.self.now.decoder) c.args.frame (at_of c.args.state.now) (at_of c.read_struct_element.new.state)
    (c.read_struct_element.new.state.steps - c.args.state.now.steps) (record {
      below = Some c.in-Some.inner;
      rest = Some
          (going_on (going_on c.args.frame (Elements c.args.entry c.args.size (c.args.count - c.loop-i.i)) c.loop-i.done) (Elements c.args.entry c.args.size (c.args.count - (c.loop-i.i + 1))) (c.loop-i.done + c.args.size));
    }) = turns_below c.args.self.now.decoder.table.now (message c.args.self.now.decoder) c.args.frame (at_of c.args.state.now) (at_of c.loop-i.state)
    (c.loop-i.state.steps + 1 - c.args.state.now.steps) (struct_frame c.entry-e.result (c.args.frame.base + c.loop-i.done) c.args.frame.depth
    c.args.frame.in_envelope) (going_on (going_on c.args.frame (Elements c.args.entry c.args.size (c.args.count - c.loop-i.i)) c.loop-i.done)
    (Elements c.args.entry c.args.size (c.args.count - (c.loop-i.i + 1))) (c.loop-i.done + c.args.size)) taken (at_of c.read_struct_element.new.state) _ _
    (Some c.in-Some.inner) (omega (arith, so_far, on)) read in
    held.below_fine.0

pub read_rest-requires-clause-ready : goal.read_rest-requires-clause-ready
read_rest-requires-clause-ready g c =
    let so_far = c.loop-i.invariant.steps in
    let taken = struct_taken c.args.self.now.decoder.table.now c.args.self.now.decoder.fine (message c.args.self.now.decoder) c.args.frame (at_of c.args.state.now) (at_of c.loop-i.state) (c.loop-i.state.steps - c.args.state.now.steps)
    c.args.entry c.args.size c.args.count c.loop-i.i c.loop-i.done c.loop-i.invariant.turns c.loop-i-test.true
    c.entry-e.result c.entry-e.ensures.value c.requires.entry c.requires.kind c.requires.frame (c.loop-i.state.steps + 1 - c.args.state.now.steps) (omega (arith, so_far)) in
    let on = c.in_ok-found.ensures.grows in
    let read = subst (λ (o : Option Frame). Turns c.args.self.now.decoder.table.now (message c.args.self.now.decoder)
    (struct_frame c.entry-e.result (c.args.frame.base + c.loop-i.done) c.args.frame.depth c.args.frame.in_envelope) (at_of c.loop-i.state)
    (at_of c.read_struct_element.new.state) (c.read_struct_element.new.state.steps - (c.loop-i.state.steps + 1)) (left_over o)) c.in-Some.is
    c.in_ok-found.ensures.ok in
    let held : Turns c.args.self.now.decoder.table.now (message c.args.self.now.decoder) c.args.frame (at_of c.args.state.now) (at_of c.read_struct_element.new.state)
    (c.read_struct_element.new.state.steps - c.args.state.now.steps) (record {
      below = Some c.in-Some.inner;
      rest = Some
          (going_on (going_on c.args.frame (Elements c.args.entry c.args.size (c.args.count - c.loop-i.i)) c.loop-i.done) (Elements c.args.entry c.args.size (c.args.count - (c.loop-i.i + 1))) (c.loop-i.done + c.args.size));
    }) = turns_below c.args.self.now.decoder.table.now (message c.args.self.now.decoder) c.args.frame (at_of c.args.state.now) (at_of c.loop-i.state)
    (c.loop-i.state.steps + 1 - c.args.state.now.steps) (struct_frame c.entry-e.result (c.args.frame.base + c.loop-i.done) c.args.frame.depth
    c.args.frame.in_envelope) (going_on (going_on c.args.frame (Elements c.args.entry c.args.size (c.args.count - c.loop-i.i)) c.loop-i.done)
    (Elements c.args.entry c.args.size (c.args.count - (c.loop-i.i + 1))) (c.loop-i.done + c.args.size)) taken (at_of c.read_struct_element.new.state) _ _
    (Some c.in-Some.inner) (omega (arith, so_far, on)) read in
    let p = held.moves c.requires.ready.0 c.requires.ready.1 in
    (p.ahead, p.below_clear)

pub read_rest-requires-clause-budget : goal.read_rest-requires-clause-budget
read_rest-requires-clause-budget g c =
    let so_far = c.loop-i.invariant.steps in
    let taken = struct_taken c.args.self.now.decoder.table.now c.args.self.now.decoder.fine (message c.args.self.now.decoder) c.args.frame (at_of c.args.state.now) (at_of c.loop-i.state) (c.loop-i.state.steps - c.args.state.now.steps)
    c.args.entry c.args.size c.args.count c.loop-i.i c.loop-i.done c.loop-i.invariant.turns c.loop-i-test.true
    c.entry-e.result c.entry-e.ensures.value c.requires.entry c.requires.kind c.requires.frame (c.loop-i.state.steps + 1 - c.args.state.now.steps) (omega (arith, so_far)) in
    let on = c.in_ok-found.ensures.grows in
    let read = subst (λ (o : Option Frame). Turns c.args.self.now.decoder.table.now (message c.args.self.now.decoder)
    (struct_frame c.entry-e.result (c.args.frame.base + c.loop-i.done) c.args.frame.depth c.args.frame.in_envelope) (at_of c.loop-i.state)
    (at_of c.read_struct_element.new.state) (c.read_struct_element.new.state.steps - (c.loop-i.state.steps + 1)) (left_over o)) c.in-Some.is
    c.in_ok-found.ensures.ok in
    let held : Turns c.args.self.now.decoder.table.now (message c.args.self.now.decoder) c.args.frame (at_of c.args.state.now) (at_of c.read_struct_element.new.state)
    (c.read_struct_element.new.state.steps - c.args.state.now.steps) (record {
      below = Some c.in-Some.inner;
      rest = Some
          (going_on (going_on c.args.frame (Elements c.args.entry c.args.size (c.args.count - c.loop-i.i)) c.loop-i.done) (Elements c.args.entry c.args.size (c.args.count - (c.loop-i.i + 1))) (c.loop-i.done + c.args.size));
    }) = turns_below c.args.self.now.decoder.table.now (message c.args.self.now.decoder) c.args.frame (at_of c.args.state.now) (at_of c.loop-i.state)
    (c.loop-i.state.steps + 1 - c.args.state.now.steps) (struct_frame c.entry-e.result (c.args.frame.base + c.loop-i.done) c.args.frame.depth
    c.args.frame.in_envelope) (going_on (going_on c.args.frame (Elements c.args.entry c.args.size (c.args.count - c.loop-i.i)) c.loop-i.done)
    (Elements c.args.entry c.args.size (c.args.count - (c.loop-i.i + 1))) (c.loop-i.done + c.args.size)) taken (at_of c.read_struct_element.new.state) _ _
    (Some c.in-Some.inner) (omega (arith, so_far, on)) read in
    let less = held.less in
    omega (arith, less, so_far, on, c.requires.budget)

pub returns-in_err-turn-clause-cost : goal.returns-in_err-turn-clause-cost
returns-in_err-turn-clause-cost g c =
    let so_far = c.loop-i.invariant.steps in
    let taken = struct_taken c.args.self.now.decoder.table.now c.args.self.now.decoder.fine (message c.args.self.now.decoder) c.args.frame (at_of c.args.state.now) (at_of c.loop-i.state) (c.loop-i.state.steps - c.args.state.now.steps)
    c.args.entry c.args.size c.args.count c.loop-i.i c.loop-i.done c.loop-i.invariant.turns c.loop-i-test.true
    c.entry-e.result c.entry-e.ensures.value c.requires.entry c.requires.kind c.requires.frame (c.loop-i.state.steps + 1 - c.args.state.now.steps) (omega (arith, so_far)) in
    let on = c.in_ok-found.ensures.grows in
    let read = subst (λ (o : Option Frame). Turns c.args.self.now.decoder.table.now (message c.args.self.now.decoder)
    (struct_frame c.entry-e.result (c.args.frame.base + c.loop-i.done) c.args.frame.depth c.args.frame.in_envelope) (at_of c.loop-i.state)
    (at_of c.read_struct_element.new.state) (c.read_struct_element.new.state.steps - (c.loop-i.state.steps + 1)) (left_over o)) c.in-Some.is
    c.in_ok-found.ensures.ok in
    let held : Turns c.args.self.now.decoder.table.now (message c.args.self.now.decoder) c.args.frame (at_of c.args.state.now) (at_of c.read_struct_element.new.state)
    (c.read_struct_element.new.state.steps - c.args.state.now.steps) (record {
      below = Some c.in-Some.inner;
      rest = Some
          (going_on (going_on c.args.frame (Elements c.args.entry c.args.size (c.args.count - c.loop-i.i)) c.loop-i.done) (Elements c.args.entry c.args.size (c.args.count - (c.loop-i.i + 1))) (c.loop-i.done + c.args.size));
    }) = turns_below c.args.self.now.decoder.table.now (message c.args.self.now.decoder) c.args.frame (at_of c.args.state.now) (at_of c.loop-i.state)
    (c.loop-i.state.steps + 1 - c.args.state.now.steps) (struct_frame c.entry-e.result (c.args.frame.base + c.loop-i.done) c.args.frame.depth
    c.args.frame.in_envelope) (going_on (going_on c.args.frame (Elements c.args.entry c.args.size (c.args.count - c.loop-i.i)) c.loop-i.done)
    (Elements c.args.entry c.args.size (c.args.count - (c.loop-i.i + 1))) (c.loop-i.done + c.args.size)) taken (at_of c.read_struct_element.new.state) _ _
    (Some c.in-Some.inner) (omega (arith, so_far, on)) read in
    let less = held.less in
    omega (arith, less, so_far, on, c.in_err-turn.ensures.cost)

pub returns-in_err-turn-clause-fault_is_true : goal.returns-in_err-turn-clause-fault_is_true
returns-in_err-turn-clause-fault_is_true g c =
    let so_far = c.loop-i.invariant.steps in
    let taken = struct_taken c.args.self.now.decoder.table.now c.args.self.now.decoder.fine (message c.args.self.now.decoder) c.args.frame (at_of c.args.state.now) (at_of c.loop-i.state) (c.loop-i.state.steps - c.args.state.now.steps)
    c.args.entry c.args.size c.args.count c.loop-i.i c.loop-i.done c.loop-i.invariant.turns c.loop-i-test.true
    c.entry-e.result c.entry-e.ensures.value c.requires.entry c.requires.kind c.requires.frame (c.loop-i.state.steps + 1 - c.args.state.now.steps) (omega (arith, so_far)) in
    let on = c.in_ok-found.ensures.grows in
    let read = subst (λ (o : Option Frame). Turns c.args.self.now.decoder.table.now (message c.args.self.now.decoder)
    (struct_frame c.entry-e.result (c.args.frame.base + c.loop-i.done) c.args.frame.depth c.args.frame.in_envelope) (at_of c.loop-i.state)
    (at_of c.read_struct_element.new.state) (c.read_struct_element.new.state.steps - (c.loop-i.state.steps + 1)) (left_over o)) c.in-Some.is
    c.in_ok-found.ensures.ok in
    let held : Turns c.args.self.now.decoder.table.now (message c.args.self.now.decoder) c.args.frame (at_of c.args.state.now) (at_of c.read_struct_element.new.state)
    (c.read_struct_element.new.state.steps - c.args.state.now.steps) (record {
      below = Some c.in-Some.inner;
      rest = Some
          (going_on (going_on c.args.frame (Elements c.args.entry c.args.size (c.args.count - c.loop-i.i)) c.loop-i.done) (Elements c.args.entry c.args.size (c.args.count - (c.loop-i.i + 1))) (c.loop-i.done + c.args.size));
    }) = turns_below c.args.self.now.decoder.table.now (message c.args.self.now.decoder) c.args.frame (at_of c.args.state.now) (at_of c.loop-i.state)
    (c.loop-i.state.steps + 1 - c.args.state.now.steps) (struct_frame c.entry-e.result (c.args.frame.base + c.loop-i.done) c.args.frame.depth
    c.args.frame.in_envelope) (going_on (going_on c.args.frame (Elements c.args.entry c.args.size (c.args.count - c.loop-i.i)) c.loop-i.done)
    (Elements c.args.entry c.args.size (c.args.count - (c.loop-i.i + 1))) (c.loop-i.done + c.args.size)) taken (at_of c.read_struct_element.new.state) _ _
    (Some c.in-Some.inner) (omega (arith, so_far, on)) read in
    passed_on c.from_residual-in_err-turn.result c.in_err-turn.field-0.0 _ c.from_residual-in_err-turn.ensures.1
    (below_breaks c.args.self.now.decoder.table.now (message c.args.self.now.decoder) c.args.frame (at_of c.args.state.now) (at_of c.read_struct_element.new.state)
    (c.read_struct_element.new.state.steps - c.args.state.now.steps) c.in-Some.inner
    (going_on (going_on c.args.frame (Elements c.args.entry c.args.size (c.args.count - c.loop-i.i)) c.loop-i.done) (Elements c.args.entry c.args.size (c.args.count - (c.loop-i.i + 1))) (c.loop-i.done + c.args.size)) held _ c.in_err-turn.ensures.fault_is_true)

pub returns-in-loop-i-clause-ok : goal.returns-in-loop-i-clause-ok
returns-in-loop-i-clause-ok g c =
    let so_far = c.loop-i.invariant.steps in
    let taken = struct_taken c.args.self.now.decoder.table.now c.args.self.now.decoder.fine (message c.args.self.now.decoder) c.args.frame (at_of c.args.state.now) (at_of c.loop-i.state) (c.loop-i.state.steps - c.args.state.now.steps)
    c.args.entry c.args.size c.args.count c.loop-i.i c.loop-i.done c.loop-i.invariant.turns c.loop-i-test.true
    c.entry-e.result c.entry-e.ensures.value c.requires.entry c.requires.kind c.requires.frame (c.loop-i.state.steps + 1 - c.args.state.now.steps) (omega (arith, so_far)) in
    let on = c.in_ok-found.ensures.grows in
    let read = subst (λ (o : Option Frame). Turns c.args.self.now.decoder.table.now (message c.args.self.now.decoder)
    (struct_frame c.entry-e.result (c.args.frame.base + c.loop-i.done) c.args.frame.depth c.args.frame.in_envelope) (at_of c.loop-i.state)
    (at_of c.read_struct_element.new.state) (c.read_struct_element.new.state.steps - (c.loop-i.state.steps + 1)) (left_over o)) c.in-Some.is
    c.in_ok-found.ensures.ok in
    let held : Turns c.args.self.now.decoder.table.now (message c.args.self.now.decoder) c.args.frame (at_of c.args.state.now) (at_of c.read_struct_element.new.state)
    (c.read_struct_element.new.state.steps - c.args.state.now.steps) (record {
      below = Some c.in-Some.inner;
      rest = Some
          (going_on (going_on c.args.frame (Elements c.args.entry c.args.size (c.args.count - c.loop-i.i)) c.loop-i.done) (Elements c.args.entry c.args.size (c.args.count - (c.loop-i.i + 1))) (c.loop-i.done + c.args.size));
    }) = turns_below c.args.self.now.decoder.table.now (message c.args.self.now.decoder) c.args.frame (at_of c.args.state.now) (at_of c.loop-i.state)
    (c.loop-i.state.steps + 1 - c.args.state.now.steps) (struct_frame c.entry-e.result (c.args.frame.base + c.loop-i.done) c.args.frame.depth
    c.args.frame.in_envelope) (going_on (going_on c.args.frame (Elements c.args.entry c.args.size (c.args.count - c.loop-i.i)) c.loop-i.done)
    (Elements c.args.entry c.args.size (c.args.count - (c.loop-i.i + 1))) (c.loop-i.done + c.args.size)) taken (at_of c.read_struct_element.new.state) _ _
    (Some c.in-Some.inner) (omega (arith, so_far, on)) read in
    let more = c.in_ok-turn.ensures.grows in
    record {
      above = c.in-Some.inner;
      mid = at_of c.read_struct_element.new.state;
      before = c.read_struct_element.new.state.steps - c.args.state.now.steps;
      behind = c.read_rest.new.state.steps - c.read_struct_element.new.state.steps;
      all = omega (arith, so_far, on, more);
      up_to = held;
      turns = c.in_ok-turn.ensures.ok;
    }

pub returns-in-loop-i-clause-cost : goal.returns-in-loop-i-clause-cost
returns-in-loop-i-clause-cost g c =
    let so_far = c.loop-i.invariant.steps in
    let taken = struct_taken c.args.self.now.decoder.table.now c.args.self.now.decoder.fine (message c.args.self.now.decoder) c.args.frame (at_of c.args.state.now) (at_of c.loop-i.state) (c.loop-i.state.steps - c.args.state.now.steps)
    c.args.entry c.args.size c.args.count c.loop-i.i c.loop-i.done c.loop-i.invariant.turns c.loop-i-test.true
    c.entry-e.result c.entry-e.ensures.value c.requires.entry c.requires.kind c.requires.frame (c.loop-i.state.steps + 1 - c.args.state.now.steps) (omega (arith, so_far)) in
    let on = c.in_ok-found.ensures.grows in
    let read = subst (λ (o : Option Frame). Turns c.args.self.now.decoder.table.now (message c.args.self.now.decoder)
    (struct_frame c.entry-e.result (c.args.frame.base + c.loop-i.done) c.args.frame.depth c.args.frame.in_envelope) (at_of c.loop-i.state)
    (at_of c.read_struct_element.new.state) (c.read_struct_element.new.state.steps - (c.loop-i.state.steps + 1)) (left_over o)) c.in-Some.is
    c.in_ok-found.ensures.ok in
    let held : Turns c.args.self.now.decoder.table.now (message c.args.self.now.decoder) c.args.frame (at_of c.args.state.now) (at_of c.read_struct_element.new.state)
    (c.read_struct_element.new.state.steps - c.args.state.now.steps) (record {
      below = Some c.in-Some.inner;
      rest = Some
          (going_on (going_on c.args.frame (Elements c.args.entry c.args.size (c.args.count - c.loop-i.i)) c.loop-i.done) (Elements c.args.entry c.args.size (c.args.count - (c.loop-i.i + 1))) (c.loop-i.done + c.args.size));
    }) = turns_below c.args.self.now.decoder.table.now (message c.args.self.now.decoder) c.args.frame (at_of c.args.state.now) (at_of c.loop-i.state)
    (c.loop-i.state.steps + 1 - c.args.state.now.steps) (struct_frame c.entry-e.result (c.args.frame.base + c.loop-i.done) c.args.frame.depth
    c.args.frame.in_envelope) (going_on (going_on c.args.frame (Elements c.args.entry c.args.size (c.args.count - c.loop-i.i)) c.loop-i.done)
    (Elements c.args.entry c.args.size (c.args.count - (c.loop-i.i + 1))) (c.loop-i.done + c.args.size)) taken (at_of c.read_struct_element.new.state) _ _
    (Some c.in-Some.inner) (omega (arith, so_far, on)) read in
    let less = held.less in
    omega (arith, less, so_far, on, c.in_ok-turn.ensures.cost)

pub loop-i-preserved-in_default : goal.loop-i-preserved-in_default
loop-i-preserved-in_default g c =
    let so_far = c.loop-i.invariant.steps in
    let taken = struct_taken c.args.self.now.decoder.table.now c.args.self.now.decoder.fine (message c.args.self.now.decoder) c.args.frame (at_of c.args.state.now) (at_of c.loop-i.state) (c.loop-i.state.steps - c.args.state.now.steps)
    c.args.entry c.args.size c.args.count c.loop-i.i c.loop-i.done c.loop-i.invariant.turns c.loop-i-test.true
    c.entry-e.result c.entry-e.ensures.value c.requires.entry c.requires.kind c.requires.frame (c.loop-i.state.steps + 1 - c.args.state.now.steps) (omega (arith, so_far)) in
    let on = c.in_ok-found.ensures.grows in
    let read = subst (λ (o : Option Frame). Turns c.args.self.now.decoder.table.now (message c.args.self.now.decoder)
    (struct_frame c.entry-e.result (c.args.frame.base + c.loop-i.done) c.args.frame.depth c.args.frame.in_envelope) (at_of c.loop-i.state)
    (at_of c.read_struct_element.new.state) (c.read_struct_element.new.state.steps - (c.loop-i.state.steps + 1)) (left_over o)) c.in_default.is
    c.in_ok-found.ensures.ok in
    record {
      holds = c.read_struct_element.ensures.holds;
      turns = turns_over c.args.self.now.decoder.table.now (message c.args.self.now.decoder) c.args.frame
          (at_of c.args.state.now) (at_of c.loop-i.state) (c.loop-i.state.steps + 1 - c.args.state.now.steps)
          (struct_frame c.entry-e.result (c.args.frame.base + c.loop-i.done) c.args.frame.depth c.args.frame.in_envelope)
          (going_on (going_on c.args.frame (Elements c.args.entry c.args.size (c.args.count - c.loop-i.i)) c.loop-i.done)
          (Elements c.args.entry c.args.size (c.args.count - (c.loop-i.i + 1))) (c.loop-i.done + c.args.size)) taken (at_of c.read_struct_element.new.state) _ _
          (omega (arith, so_far, on)) read;
      steps = omega (arith, so_far, on);
    }

pub loop-i-preserved : goal.loop-i-preserved
loop-i-preserved g c =
    let so_far = c.loop-i.invariant.steps in
    let taken = struct_taken c.args.self.now.decoder.table.now c.args.self.now.decoder.fine (message c.args.self.now.decoder) c.args.frame (at_of c.args.state.now) (at_of c.loop-i.state) (c.loop-i.state.steps - c.args.state.now.steps)
    c.args.entry c.args.size c.args.count c.loop-i.i c.loop-i.done c.loop-i.invariant.turns c.loop-i-test.true
    c.entry-e.result c.entry-e.ensures.value c.requires.entry c.requires.kind c.requires.frame (c.loop-i.state.steps + 1 - c.args.state.now.steps) (omega (arith, so_far)) in
    let on = c.in_ok-found.ensures.grows in
    let read = subst (λ (o : Option Frame). Turns c.args.self.now.decoder.table.now (message c.args.self.now.decoder)
    (struct_frame c.entry-e.result (c.args.frame.base + c.loop-i.done) c.args.frame.depth c.args.frame.in_envelope) (at_of c.loop-i.state)
    (at_of c.read_struct_element.new.state) (c.read_struct_element.new.state.steps - (c.loop-i.state.steps + 1)) (left_over o)) c.in-Some.is
    c.in_ok-found.ensures.ok in
    let held : Turns c.args.self.now.decoder.table.now (message c.args.self.now.decoder) c.args.frame (at_of c.args.state.now) (at_of c.read_struct_element.new.state)
    (c.read_struct_element.new.state.steps - c.args.state.now.steps) (record {
      below = Some c.in-Some.inner;
      rest = Some
          (going_on (going_on c.args.frame (Elements c.args.entry c.args.size (c.args.count - c.loop-i.i)) c.loop-i.done) (Elements c.args.entry c.args.size (c.args.count - (c.loop-i.i + 1))) (c.loop-i.done + c.args.size));
    }) = turns_below c.args.self.now.decoder.table.now (message c.args.self.now.decoder) c.args.frame (at_of c.args.state.now) (at_of c.loop-i.state)
    (c.loop-i.state.steps + 1 - c.args.state.now.steps) (struct_frame c.entry-e.result (c.args.frame.base + c.loop-i.done) c.args.frame.depth
    c.args.frame.in_envelope) (going_on (going_on c.args.frame (Elements c.args.entry c.args.size (c.args.count - c.loop-i.i)) c.loop-i.done)
    (Elements c.args.entry c.args.size (c.args.count - (c.loop-i.i + 1))) (c.loop-i.done + c.args.size)) taken (at_of c.read_struct_element.new.state) _ _
    (Some c.in-Some.inner) (omega (arith, so_far, on)) read in
    let more = c.in_ok-turn.ensures.grows in
    let nothing : c.in_ok-turn.turn ≡ left_over None = c.is_done.ensures.0 c.if-is_done.true in
    let two = subst (λ (x : Turn). Turns c.args.self.now.decoder.table.now (message c.args.self.now.decoder) c.in-Some.inner (at_of c.read_struct_element.new.state) (at_of c.read_rest.new.state)
    (c.read_rest.new.state.steps - c.read_struct_element.new.state.steps) x) nothing c.in_ok-turn.ensures.ok in
    record {
      holds = c.read_rest.ensures.holds;
      turns = turns_over c.args.self.now.decoder.table.now (message c.args.self.now.decoder) c.args.frame (at_of c.args.state.now) (at_of c.read_struct_element.new.state)
          (c.read_struct_element.new.state.steps - c.args.state.now.steps) c.in-Some.inner
          (going_on (going_on c.args.frame (Elements c.args.entry c.args.size (c.args.count - c.loop-i.i)) c.loop-i.done) (Elements c.args.entry c.args.size (c.args.count - (c.loop-i.i + 1))) (c.loop-i.done + c.args.size)) held (at_of c.read_rest.new.state) _ _ (omega (arith, so_far, on, more)) two;
      steps = omega (arith, so_far, on, more);
    }

pub overflow_add-behind : goal.overflow_add-behind
overflow_add-behind g c =
    let room = over_room c.args.self.now.decoder.table.now c.args.self.now.decoder.fine (message c.args.self.now.decoder) c.args.frame (at_of c.args.state.now)
    (at_of c.loop-i.state) (c.loop-i.state.steps - c.args.state.now.steps)
    (going_on c.args.frame (Elements c.args.entry c.args.size (c.args.count - c.loop-i.i)) c.loop-i.done) c.loop-i.invariant.turns in
    let before = room.0 in
    let within = room.1 in
    record { fits = omega (arith, before, within) }

pub overflow_sub-state : goal.overflow_sub-state
overflow_sub-state g c =
    let room = over_room c.args.self.now.decoder.table.now c.args.self.now.decoder.fine (message c.args.self.now.decoder) c.args.frame (at_of c.args.state.now)
    (at_of c.loop-i.state) (c.loop-i.state.steps - c.args.state.now.steps)
    (going_on c.args.frame (Elements c.args.entry c.args.size (c.args.count - c.loop-i.i)) c.loop-i.done) c.loop-i.invariant.turns in
    let before = room.0 in
    let within = room.1 in
    omega (arith, before, within)

pub zeros_at-requires-clause-order : goal.zeros_at-requires-clause-order
zeros_at-requires-clause-order g c =
    let room = over_room c.args.self.now.decoder.table.now c.args.self.now.decoder.fine (message c.args.self.now.decoder) c.args.frame (at_of c.args.state.now)
    (at_of c.loop-i.state) (c.loop-i.state.steps - c.args.state.now.steps)
    (going_on c.args.frame (Elements c.args.entry c.args.size (c.args.count - c.loop-i.i)) c.loop-i.done) c.loop-i.invariant.turns in
    let before = room.0 in
    let within = room.1 in
    omega (arith, before, within)

pub returns-clause-ok : goal.returns-clause-ok
returns-clause-ok g c =
    let over = elements_over c.args.self.now.decoder.table.now c.args.entry c.args.size c.loop-i.i c.args.count c.loop-i.done (omega (arith, c.loop-i-test.false)) in
    let so_far = c.loop-i.invariant.steps in
    over_turns c.args.self.now.decoder.table.now c.args.self.now.decoder.fine (message c.args.self.now.decoder) c.args.frame (at_of c.args.state.now) (at_of c.loop-i.state)
    (c.loop-i.state.steps - c.args.state.now.steps) (going_on c.args.frame (Elements c.args.entry c.args.size (c.args.count - c.loop-i.i))
    c.loop-i.done) c.loop-i.invariant.turns over tt _ (omega (arith, so_far)) (omega (arith, so_far)) c.in_ok-zeros_at.ensures.ok

pub loop-i-init : goal.loop-i-init
loop-i-init g c =
    let none : 0 ≡ c.args.state.now.steps - c.args.state.now.steps = omega arith in
    let all : c.args.count ≡ c.args.count - 0 = omega arith in
    record {
      holds = c.requires.holds;
      turns = subst (λ (n : ℕ). Turns c.args.self.now.decoder.table.now (message c.args.self.now.decoder) c.args.frame
          (at_of c.args.state.now) (at_of c.args.state.now) n (left_over (Some
          (going_on c.args.frame (Elements c.args.entry c.args.size (c.args.count - 0)) c.args.frame.done)))) none
          (turns_start c.args.self.now.decoder.table.now (message c.args.self.now.decoder) c.args.frame (at_of c.args.state.now) c.requires.frame c.requires.state
          (going_on c.args.frame (Elements c.args.entry c.args.size (c.args.count - 0)) c.args.frame.done)
          (same_frame c.args.frame (Elements c.args.entry c.args.size (c.args.count - 0))
          (c.requires.left ∙ ap (λ n. Elements c.args.entry c.args.size n) all)));
      steps = omega arith;
    }

pub returns-in_err-found-clause-fault_is_true : goal.returns-in_err-found-clause-fault_is_true
returns-in_err-found-clause-fault_is_true g c =
    let so_far = c.loop-i.invariant.steps in
    let taken = struct_taken c.args.self.now.decoder.table.now c.args.self.now.decoder.fine (message c.args.self.now.decoder) c.args.frame (at_of c.args.state.now) (at_of c.loop-i.state) (c.loop-i.state.steps - c.args.state.now.steps)
    c.args.entry c.args.size c.args.count c.loop-i.i c.loop-i.done c.loop-i.invariant.turns c.loop-i-test.true
    c.entry-e.result c.entry-e.ensures.value c.requires.entry c.requires.kind c.requires.frame (c.loop-i.state.steps + 1 - c.args.state.now.steps) (omega (arith, so_far)) in
    passed_on c.from_residual.result c.in_err-found.field-0.0 _ c.from_residual.ensures.1
    (below_breaks c.args.self.now.decoder.table.now (message c.args.self.now.decoder) c.args.frame (at_of c.args.state.now) (at_of c.loop-i.state)
    (c.loop-i.state.steps + 1 - c.args.state.now.steps) (struct_frame c.entry-e.result (c.args.frame.base + c.loop-i.done) c.args.frame.depth
    c.args.frame.in_envelope) (going_on (going_on c.args.frame (Elements c.args.entry c.args.size (c.args.count - c.loop-i.i)) c.loop-i.done)
    (Elements c.args.entry c.args.size (c.args.count - (c.loop-i.i + 1))) (c.loop-i.done + c.args.size)) taken _
    c.in_err-found.ensures.fault_is_true)

pub returns-in_err-zeros_at-clause-fault_is_true : goal.returns-in_err-zeros_at-clause-fault_is_true
returns-in_err-zeros_at-clause-fault_is_true g c =
    let over = elements_over c.args.self.now.decoder.table.now c.args.entry c.args.size c.loop-i.i c.args.count c.loop-i.done (omega (arith, c.loop-i-test.false)) in
    passed_on c.from_residual-in_err-zeros_at.result c.in_err-zeros_at.field-0.0 _ c.from_residual-in_err-zeros_at.ensures.1
    (over_breaks c.args.self.now.decoder.table.now c.args.self.now.decoder.fine (message c.args.self.now.decoder) c.args.frame (at_of c.args.state.now)
    (at_of c.loop-i.state) (c.loop-i.state.steps - c.args.state.now.steps)
    (going_on c.args.frame (Elements c.args.entry c.args.size (c.args.count - c.loop-i.i)) c.loop-i.done) c.loop-i.invariant.turns over tt _
    c.in_err-zeros_at.ensures.fault_is_true)

pub read_struct_element-requires-clause-ready : goal.read_struct_element-requires-clause-ready
read_struct_element-requires-clause-ready g c =
    let so_far = c.loop-i.invariant.steps in
    let taken = struct_taken c.args.self.now.decoder.table.now c.args.self.now.decoder.fine (message c.args.self.now.decoder) c.args.frame (at_of c.args.state.now) (at_of c.loop-i.state) (c.loop-i.state.steps - c.args.state.now.steps)
    c.args.entry c.args.size c.args.count c.loop-i.i c.loop-i.done c.loop-i.invariant.turns c.loop-i-test.true
    c.entry-e.result c.entry-e.ensures.value c.requires.entry c.requires.kind c.requires.frame (c.loop-i.state.steps + 1 - c.args.state.now.steps) (omega (arith, so_far)) in
    let p = taken.moves c.requires.ready.0 c.requires.ready.1 in
    (p.ahead, p.below_clear)

pub zeros_at-requires-clause-free : goal.zeros_at-requires-clause-free
zeros_at-requires-clause-free g c =
    let t = c.args.self.now.decoder.table.now in
    let m = message c.args.self.now.decoder in
    over_free t c.args.self.now.decoder.fine m c.args.frame (at_of c.args.state.now) (at_of c.loop-i.state) (c.loop-i.state.steps - c.args.state.now.steps) (going_on c.args.frame (Elements c.args.entry c.args.size (c.args.count - c.loop-i.i)) c.loop-i.done) c.loop-i.invariant.turns c.requires.ready

pub overflow_cast-below : goal.overflow_cast-below
overflow_cast-below g c =
    let room = struct_room c.args.self.now.decoder.table.now c.args.self.now.decoder.fine (message c.args.self.now.decoder) c.args.frame (at_of c.args.state.now) (at_of c.loop-i.state) (c.loop-i.state.steps - c.args.state.now.steps)
    c.args.entry c.args.size c.args.count c.loop-i.i c.loop-i.done c.loop-i.invariant.turns c.loop-i-test.true in
    record { fits = omega (arith, room.1, room.2, c.args.self.now.decoder.short) }

pub overflow_cast-result : goal.overflow_cast-result
overflow_cast-result g c =
    let room = struct_room c.args.self.now.decoder.table.now c.args.self.now.decoder.fine (message c.args.self.now.decoder) c.args.frame (at_of c.args.state.now) (at_of c.loop-i.state) (c.loop-i.state.steps - c.args.state.now.steps)
    c.args.entry c.args.size c.args.count c.loop-i.i c.loop-i.done c.loop-i.invariant.turns c.loop-i-test.true in
    record { fits = omega (arith, room.1, room.2, c.args.self.now.decoder.short) }

pub overflow_cast-result-in-loop-i : goal.overflow_cast-result-in-loop-i
overflow_cast-result-in-loop-i g c =
    let room = struct_room c.args.self.now.decoder.table.now c.args.self.now.decoder.fine (message c.args.self.now.decoder) c.args.frame (at_of c.args.state.now) (at_of c.loop-i.state) (c.loop-i.state.steps - c.args.state.now.steps)
    c.args.entry c.args.size c.args.count c.loop-i.i c.loop-i.done c.loop-i.invariant.turns c.loop-i-test.true in
    record { fits = omega (arith, room.1, room.2, c.args.self.now.decoder.short) }

pub read_struct_element-requires-clause-leaves : goal.read_struct_element-requires-clause-leaves
read_struct_element-requires-clause-leaves g c =
    λ so. subst (λ (d : Entry). AreLeaves c.args.self.now.decoder.table.now d.first d.count) (sym c.entry-e.ensures.value) (c.requires.leaves so)

pub read_struct_element-requires-clause-behind : goal.read_struct_element-requires-clause-behind
read_struct_element-requires-clause-behind g c =
    let plain = c.plain_rows-plain.ensures in
    λ so i from below.
    let all = subst (λ (d : Entry). AreLeaves c.args.self.now.decoder.table.now d.first d.count) (sym c.entry-e.ensures.value) (c.requires.leaves so) in
    all i (omega (arith, from, plain.first)) (omega (arith, below, plain.first, plain.count))
