use Rattle.fidl_decode_values.specs.Reading.{message}
use Rattle.std.proofs.Common.{◌≡◌, ℕ, ◌+◌, ◌-◌, ◌^◌, ◌<◌, ◌≤◌, sym, ap, subst, ◌∙◌, arith}
use Rattle.std.specs.Prelude.{Option, Some, None}
use Rattle.fidl_decode_model.specs.declared.frame.Frame.{Frame}
use Rattle.fidl_decode_model.specs.declared.frame.Remaining.TheVariants.{Elements}
use Rattle.fidl_decode_model.specs.Machine.{Visits, VisitFine, FrameFine, BreaksFrame, Turns, turn_work, at_of}
use Rattle.fidl_decode_model.proofs.Turning.{passed_on}
use Rattle.fidl_decode_columns.proofs.Leaves.{going_on, left_over, same_frame, turns_start, turns_then, turns_break}
use Rattle.fidl_decode_columns.proofs.Items.{items_room, item_known, item_size, item_room, item_inside, item_work, item_takes, item_breaks, items_over, items_break}
use Rattle.fidl_decode_values.specs.Ready.{FrameReady}
use Rattle.fidl_decode_values.proofs.ReadyRows.{rest_ready, element_ready, over_free}
use Rattle.fidl_decode.proofs.Flags.{is_set}
use Rattle.fidl_decode.proofs.frames.Frames.read_items.Goals as goal

pub loop-i-init : goal.loop-i-init
loop-i-init g c =
    let t = c.args.self.now.decoder.table.now in
    let m = message c.args.self.now.decoder in
    let f = c.args.frame in
    let old = at_of c.args.state.now in
    let none : 0 ≡ c.args.state.now.steps - c.args.state.now.steps = omega arith in
    let all : c.args.count ≡ c.args.count - 0 = omega arith in
    let left = Elements c.args.entry c.args.size (c.args.count - 0) in
    let is = c.requires.left ∙ ap (λ n. Elements c.args.entry c.args.size n) all in
    record { holds = c.requires.holds; turns = subst (λ (n : ℕ). Turns t m f old old n (left_over (Some (going_on f left f.done)))) none (turns_start t m f old c.requires.frame c.requires.state (going_on f left f.done) (same_frame f left is)); steps = omega arith }

pub overflow_add-place : goal.overflow_add-place
overflow_add-place g c =
    let room = items_room c.args.self.now.decoder.table.now c.args.self.now.decoder.fine (message c.args.self.now.decoder) c.args.frame (at_of c.args.state.now) (at_of c.loop-i.state)
    (c.loop-i.state.steps - c.args.state.now.steps) c.args.entry c.args.size c.args.count c.loop-i.i c.loop-i.done c.loop-i.invariant.turns in
    let before = room.0 in
    let within = room.1 in
    record { fits = omega (arith, before, within) }

pub overflow_add-state : goal.overflow_add-state
overflow_add-state g c =
    let less = c.loop-i.invariant.turns.less in
    let so_far = c.loop-i.invariant.steps in
    record { fits = omega (arith, less, so_far, c.requires.budget) }

pub read_element-requires-clause-entry : goal.read_element-requires-clause-entry
read_element-requires-clause-entry g c =
    item_known c.args.self.now.decoder.table.now c.args.self.now.decoder.fine (message c.args.self.now.decoder) c.args.frame (at_of c.args.state.now) (at_of c.loop-i.state)
    (c.loop-i.state.steps - c.args.state.now.steps) c.args.entry c.args.size c.args.count c.loop-i.i c.loop-i.done c.loop-i.invariant.turns c.loop-i-test.true

pub read_element-requires-clause-room : goal.read_element-requires-clause-room
read_element-requires-clause-room g c =
    let room = item_room c.args.self.now.decoder.table.now c.args.self.now.decoder.fine (message c.args.self.now.decoder) c.args.frame (at_of c.args.state.now) (at_of c.loop-i.state)
    (c.loop-i.state.steps - c.args.state.now.steps) c.args.entry c.args.size c.args.count c.loop-i.i c.loop-i.done c.loop-i.invariant.turns c.loop-i-test.true in
    let within = room.1 in
    omega (arith, within)

pub read_element-requires-clause-state : goal.read_element-requires-clause-state
read_element-requires-clause-state g c =
    c.loop-i.invariant.turns.state

pub read_element-requires-clause-in_envelope : goal.read_element-requires-clause-in_envelope
read_element-requires-clause-in_envelope g c =
    item_inside c.args.self.now.decoder.table.now c.args.self.now.decoder.fine (message c.args.self.now.decoder) c.args.frame (at_of c.args.state.now) (at_of c.loop-i.state)
    (c.loop-i.state.steps - c.args.state.now.steps) c.args.entry c.args.size c.args.count c.loop-i.i c.loop-i.done c.loop-i.invariant.turns c.loop-i-test.true

pub read_element-requires-clause-budget : goal.read_element-requires-clause-budget
read_element-requires-clause-budget g c =
    let work = item_work c.args.self.now.decoder.table.now c.args.self.now.decoder.fine (message c.args.self.now.decoder) c.args.frame (at_of c.args.state.now) (at_of c.loop-i.state)
    (c.loop-i.state.steps - c.args.state.now.steps) c.args.entry c.args.size c.args.count c.loop-i.i c.loop-i.done c.loop-i.invariant.turns c.loop-i-test.true in
    let less = c.loop-i.invariant.turns.less in
    let so_far = c.loop-i.invariant.steps in
    omega (arith, work, less, so_far, c.requires.budget)

pub returns-in_err-found-clause-cost : goal.returns-in_err-found-clause-cost
returns-in_err-found-clause-cost g c =
    let work = item_work c.args.self.now.decoder.table.now c.args.self.now.decoder.fine (message c.args.self.now.decoder) c.args.frame (at_of c.args.state.now) (at_of c.loop-i.state)
    (c.loop-i.state.steps - c.args.state.now.steps) c.args.entry c.args.size c.args.count c.loop-i.i c.loop-i.done c.loop-i.invariant.turns c.loop-i-test.true in
    let less = c.loop-i.invariant.turns.less in
    let so_far = c.loop-i.invariant.steps in
    omega (arith, work, less, so_far, c.in_err-found.ensures.cost)

pub returns-in_err-found-clause-fault_is_true : goal.returns-in_err-found-clause-fault_is_true
returns-in_err-found-clause-fault_is_true g c =
    passed_on c.from_residual-in_err-found.result c.in_err-found.field-0.0 _ c.from_residual-in_err-found.ensures.1
    (item_breaks c.args.self.now.decoder.table.now c.args.self.now.decoder.fine (message c.args.self.now.decoder) c.args.frame (at_of c.args.state.now) (at_of c.loop-i.state)
    (c.loop-i.state.steps - c.args.state.now.steps) c.args.entry c.args.size c.args.count c.loop-i.i c.loop-i.done c.loop-i.invariant.turns c.loop-i-test.true _ c.in_err-found.ensures.fault_is_true)

pub overflow_add-done : goal.overflow_add-done
overflow_add-done g c =
    let room = item_room c.args.self.now.decoder.table.now c.args.self.now.decoder.fine (message c.args.self.now.decoder) c.args.frame (at_of c.args.state.now) (at_of c.loop-i.state)
    (c.loop-i.state.steps - c.args.state.now.steps) c.args.entry c.args.size c.args.count c.loop-i.i c.loop-i.done c.loop-i.invariant.turns c.loop-i-test.true in
    let fits = room.0 in
    let within = room.1 in
    let size = item_size c.args.self.now.decoder.table.now c.args.self.now.decoder.fine (message c.args.self.now.decoder) c.args.frame (at_of c.args.state.now) (at_of c.loop-i.state)
    (c.loop-i.state.steps - c.args.state.now.steps) c.args.entry c.args.size c.args.count c.loop-i.i c.loop-i.done c.loop-i.invariant.turns c.loop-i-test.true in
    record { fits = omega (arith, within, size) }

pub returns-in-Some-found-clause-ok : goal.returns-in-Some-found-clause-ok
returns-in-Some-found-clause-ok g c =
    let t = c.args.self.now.decoder.table.now in
    let m = message c.args.self.now.decoder in
    let f = c.args.frame in
    let old = c.args.state.now in
    let new = c.read_element.new.state in
    let so_far = c.loop-i.invariant.steps in
    let visits = subst (λ (o : Option Frame). Visits t m f.depth c.args.entry (f.base + c.loop-i.done) (at_of c.loop-i.state) (at_of new)
    (new.steps - (c.loop-i.state.steps + 1)) o) c.in-Some-found.is c.in_ok-found.ensures.ok in
    let vf = subst (λ (o : Option Frame). VisitFine t m f.depth f.in_envelope c.args.entry o) c.in-Some-found.is c.in_ok-found.ensures.fine in
    let inner = c.in-Some-found.inner in
    let rest = going_on f (Elements c.args.entry c.args.size (c.args.count - (c.loop-i.i + 1))) (c.loop-i.done + c.args.size) in
    let turns : Turns t m f (at_of old) (at_of new) (new.steps - old.steps) (record { below = Some inner; rest = Some rest }) =
    item_takes c.args.self.now.decoder.table.now c.args.self.now.decoder.fine (message c.args.self.now.decoder) c.args.frame (at_of c.args.state.now) (at_of c.loop-i.state)
    (c.loop-i.state.steps - c.args.state.now.steps) c.args.entry c.args.size c.args.count c.loop-i.i c.loop-i.done c.loop-i.invariant.turns c.loop-i-test.true
    (Some inner) (at_of new) _ _ (omega (arith, so_far, c.in_ok-found.ensures.grows)) visits vf in
    subst (λ g. Turns t m f (at_of old) (at_of new) (new.steps - old.steps) (record { below = Some inner; rest = Some g })) (sym c.elements_behind.ensures) turns

pub returns-in-Some-found-clause-rises : goal.returns-in-Some-found-clause-rises
returns-in-Some-found-clause-rises g c =
    let so_far = c.loop-i.invariant.steps in
    omega (arith, so_far, c.in_ok-found.ensures.grows)

pub returns-in-Some-found-clause-cost : goal.returns-in-Some-found-clause-cost
returns-in-Some-found-clause-cost g c =
    let work = item_work c.args.self.now.decoder.table.now c.args.self.now.decoder.fine (message c.args.self.now.decoder) c.args.frame (at_of c.args.state.now) (at_of c.loop-i.state)
    (c.loop-i.state.steps - c.args.state.now.steps) c.args.entry c.args.size c.args.count c.loop-i.i c.loop-i.done c.loop-i.invariant.turns c.loop-i-test.true in
    let less = c.loop-i.invariant.turns.less in
    let so_far = c.loop-i.invariant.steps in
    omega (arith, work, less, so_far, c.in_ok-found.ensures.cost)

pub loop-i-preserved : goal.loop-i-preserved
loop-i-preserved g c =
    let so_far = c.loop-i.invariant.steps in
    let visits = subst (λ (o : Option Frame). Visits c.args.self.now.decoder.table.now (message c.args.self.now.decoder) c.args.frame.depth c.args.entry (c.args.frame.base + c.loop-i.done) (at_of c.loop-i.state) (at_of c.read_element.new.state)
    (c.read_element.new.state.steps - (c.loop-i.state.steps + 1)) o) c.in_default-found.is c.in_ok-found.ensures.ok in
    record {
      holds = c.read_element.ensures.holds;
      turns = item_takes c.args.self.now.decoder.table.now c.args.self.now.decoder.fine (message c.args.self.now.decoder) c.args.frame (at_of c.args.state.now) (at_of c.loop-i.state)
          (c.loop-i.state.steps - c.args.state.now.steps) c.args.entry c.args.size c.args.count c.loop-i.i c.loop-i.done c.loop-i.invariant.turns c.loop-i-test.true None (at_of c.read_element.new.state) _ _ (omega (arith, so_far, c.in_ok-found.ensures.grows)) visits tt;
      steps = omega (arith, so_far, c.in_ok-found.ensures.grows);
    }

pub overflow_add-behind : goal.overflow_add-behind
overflow_add-behind g c =
    let room = items_room c.args.self.now.decoder.table.now c.args.self.now.decoder.fine (message c.args.self.now.decoder) c.args.frame (at_of c.args.state.now) (at_of c.loop-i.state)
    (c.loop-i.state.steps - c.args.state.now.steps) c.args.entry c.args.size c.args.count c.loop-i.i c.loop-i.done c.loop-i.invariant.turns in
    let before = room.0 in
    let within = room.1 in
    record { fits = omega (arith, before, within) }

pub overflow_sub-state : goal.overflow_sub-state
overflow_sub-state g c =
    let room = items_room c.args.self.now.decoder.table.now c.args.self.now.decoder.fine (message c.args.self.now.decoder) c.args.frame (at_of c.args.state.now) (at_of c.loop-i.state)
    (c.loop-i.state.steps - c.args.state.now.steps) c.args.entry c.args.size c.args.count c.loop-i.i c.loop-i.done c.loop-i.invariant.turns in
    let before = room.0 in
    let within = room.1 in
    omega (arith, before, within)

pub overflow_add-state-3 : goal.overflow_add-state-3
overflow_add-state-3 g c =
    let room = items_room c.args.self.now.decoder.table.now c.args.self.now.decoder.fine (message c.args.self.now.decoder) c.args.frame (at_of c.args.state.now) (at_of c.loop-i.state)
    (c.loop-i.state.steps - c.args.state.now.steps) c.args.entry c.args.size c.args.count c.loop-i.i c.loop-i.done c.loop-i.invariant.turns in
    let before = room.0 in
    let within = room.1 in
    let less = c.loop-i.invariant.turns.less in
    let so_far = c.loop-i.invariant.steps in
    record { fits = omega (arith, before, within, less, so_far, c.requires.budget) }

pub zeros_at-requires-clause-order : goal.zeros_at-requires-clause-order
zeros_at-requires-clause-order g c =
    let room = items_room c.args.self.now.decoder.table.now c.args.self.now.decoder.fine (message c.args.self.now.decoder) c.args.frame (at_of c.args.state.now) (at_of c.loop-i.state)
    (c.loop-i.state.steps - c.args.state.now.steps) c.args.entry c.args.size c.args.count c.loop-i.i c.loop-i.done c.loop-i.invariant.turns in
    let before = room.0 in
    let within = room.1 in
    omega (arith, before, within)

pub returns-in_err-zeros_at-clause-cost : goal.returns-in_err-zeros_at-clause-cost
returns-in_err-zeros_at-clause-cost g c =
    let room = items_room c.args.self.now.decoder.table.now c.args.self.now.decoder.fine (message c.args.self.now.decoder) c.args.frame (at_of c.args.state.now) (at_of c.loop-i.state)
    (c.loop-i.state.steps - c.args.state.now.steps) c.args.entry c.args.size c.args.count c.loop-i.i c.loop-i.done c.loop-i.invariant.turns in
    let before = room.0 in
    let spend = room.2 in
    let less = c.loop-i.invariant.turns.less in
    let so_far = c.loop-i.invariant.steps in
    omega (arith, before, spend, less, so_far)

pub returns-in_err-zeros_at-clause-fault_is_true : goal.returns-in_err-zeros_at-clause-fault_is_true
returns-in_err-zeros_at-clause-fault_is_true g c =
    passed_on c.from_residual-in_err-zeros_at.result c.in_err-zeros_at.field-0.0 _ c.from_residual-in_err-zeros_at.ensures.1
    (items_break c.args.self.now.decoder.table.now c.args.self.now.decoder.fine (message c.args.self.now.decoder) c.args.frame (at_of c.args.state.now) (at_of c.loop-i.state)
    (c.loop-i.state.steps - c.args.state.now.steps) c.args.entry c.args.size c.args.count c.loop-i.i c.loop-i.done c.loop-i.invariant.turns (omega (arith, c.loop-i-test.false)) _ c.in_err-zeros_at.ensures.fault_is_true)

pub returns-clause-ok : goal.returns-clause-ok
returns-clause-ok g c =
    let so_far = c.loop-i.invariant.steps in
    items_over c.args.self.now.decoder.table.now c.args.self.now.decoder.fine (message c.args.self.now.decoder) c.args.frame (at_of c.args.state.now) (at_of c.loop-i.state)
    (c.loop-i.state.steps - c.args.state.now.steps) c.args.entry c.args.size c.args.count c.loop-i.i c.loop-i.done c.loop-i.invariant.turns (omega (arith, c.loop-i-test.false)) _ (omega (arith, so_far)) (omega (arith, so_far)) c.in_ok-zeros_at.ensures.ok

pub returns-clause-rises : goal.returns-clause-rises
returns-clause-rises g c =
    let so_far = c.loop-i.invariant.steps in
    omega (arith, so_far)

pub returns-clause-cost : goal.returns-clause-cost
returns-clause-cost g c =
    let room = items_room c.args.self.now.decoder.table.now c.args.self.now.decoder.fine (message c.args.self.now.decoder) c.args.frame (at_of c.args.state.now) (at_of c.loop-i.state)
    (c.loop-i.state.steps - c.args.state.now.steps) c.args.entry c.args.size c.args.count c.loop-i.i c.loop-i.done c.loop-i.invariant.turns in
    let before = room.0 in
    let spend = room.2 in
    let less = c.loop-i.invariant.turns.less in
    let so_far = c.loop-i.invariant.steps in
    omega (arith, before, spend, less, so_far)

pub read_element-requires-clause-ready : goal.read_element-requires-clause-ready
read_element-requires-clause-ready g c =
    let t = c.args.self.now.decoder.table.now in
    let m = message c.args.self.now.decoder in
    element_ready t c.args.self.now.decoder.fine m c.args.frame (at_of c.args.state.now) (at_of c.loop-i.state) (c.loop-i.state.steps - c.args.state.now.steps) c.args.entry c.args.size c.args.count c.loop-i.i c.loop-i.done c.loop-i.invariant.turns c.requires.ready c.loop-i-test.true

pub zeros_at-requires-clause-free : goal.zeros_at-requires-clause-free
zeros_at-requires-clause-free g c =
    let t = c.args.self.now.decoder.table.now in
    let m = message c.args.self.now.decoder in
    over_free t c.args.self.now.decoder.fine m c.args.frame (at_of c.args.state.now) (at_of c.loop-i.state) (c.loop-i.state.steps - c.args.state.now.steps) (going_on c.args.frame (Elements c.args.entry c.args.size (c.args.count - c.loop-i.i)) c.loop-i.done) c.loop-i.invariant.turns c.requires.ready

pub overflow_cast-done-in-Some-found : goal.overflow_cast-done-in-Some-found
overflow_cast-done-in-Some-found g c =
    let room = item_room c.args.self.now.decoder.table.now c.args.self.now.decoder.fine (message c.args.self.now.decoder) c.args.frame (at_of c.args.state.now) (at_of c.loop-i.state)
    (c.loop-i.state.steps - c.args.state.now.steps) c.args.entry c.args.size c.args.count c.loop-i.i c.loop-i.done c.loop-i.invariant.turns c.loop-i-test.true in
    let within = room.1 in
    let size = item_size c.args.self.now.decoder.table.now c.args.self.now.decoder.fine (message c.args.self.now.decoder) c.args.frame (at_of c.args.state.now) (at_of c.loop-i.state)
    (c.loop-i.state.steps - c.args.state.now.steps) c.args.entry c.args.size c.args.count c.loop-i.i c.loop-i.done c.loop-i.invariant.turns c.loop-i-test.true in
    record { fits = omega (arith, within, size, c.args.self.now.decoder.short) }

pub overflow_cast-size-in-Some-found : goal.overflow_cast-size-in-Some-found
overflow_cast-size-in-Some-found g c =
    let room = item_room c.args.self.now.decoder.table.now c.args.self.now.decoder.fine (message c.args.self.now.decoder) c.args.frame (at_of c.args.state.now) (at_of c.loop-i.state)
    (c.loop-i.state.steps - c.args.state.now.steps) c.args.entry c.args.size c.args.count c.loop-i.i c.loop-i.done c.loop-i.invariant.turns c.loop-i-test.true in
    let within = room.1 in
    let size = item_size c.args.self.now.decoder.table.now c.args.self.now.decoder.fine (message c.args.self.now.decoder) c.args.frame (at_of c.args.state.now) (at_of c.loop-i.state)
    (c.loop-i.state.steps - c.args.state.now.steps) c.args.entry c.args.size c.args.count c.loop-i.i c.loop-i.done c.loop-i.invariant.turns c.loop-i-test.true in
    record { fits = omega (arith, within, size, c.args.self.now.decoder.short) }

pub overflow_cast-done-in-Some : goal.overflow_cast-done-in-Some
overflow_cast-done-in-Some g c =
    let room = items_room c.args.self.now.decoder.table.now c.args.self.now.decoder.fine (message c.args.self.now.decoder) c.args.frame (at_of c.args.state.now) (at_of c.loop-i.state)
    (c.loop-i.state.steps - c.args.state.now.steps) c.args.entry c.args.size c.args.count c.loop-i.i c.loop-i.done c.loop-i.invariant.turns in
    let before = room.0 in
    let within = room.1 in
    record { fits = omega (arith, before, within, c.args.self.now.decoder.short) }

pub entry-requires : goal.entry-requires
entry-requires g c =
    item_known c.args.self.now.decoder.table.now c.args.self.now.decoder.fine (message c.args.self.now.decoder) c.args.frame (at_of c.args.state.now) (at_of c.loop-i.state)
    (c.loop-i.state.steps - c.args.state.now.steps) c.args.entry c.args.size c.args.count c.loop-i.i c.loop-i.done c.loop-i.invariant.turns c.loop-i-test.true

pub look_up-requires-clause-entry : goal.look_up-requires-clause-entry
look_up-requires-clause-entry g c =
    item_known c.args.self.now.decoder.table.now c.args.self.now.decoder.fine (message c.args.self.now.decoder) c.args.frame (at_of c.args.state.now) (at_of c.loop-i.state)
    (c.loop-i.state.steps - c.args.state.now.steps) c.args.entry c.args.size c.args.count c.loop-i.i c.loop-i.done c.loop-i.invariant.turns c.loop-i-test.true

pub look_up-requires-clause-kind : goal.look_up-requires-clause-kind
look_up-requires-clause-kind g c = c.requires.kind (is_set g.row.TABLES c.if-this-ne0.true)

pub read_tables-requires-clause-frame : goal.read_tables-requires-clause-frame
read_tables-requires-clause-frame g c =
    subst (FrameFine c.args.self.now.decoder.table.now c.args.self.now.decoder.bytes.value.came) (sym c.elements_behind-rest.ensures) c.loop-i.invariant.turns.rest_fine.0

pub read_tables-requires-clause-ready : goal.read_tables-requires-clause-ready
read_tables-requires-clause-ready g c =
    let t = c.args.self.now.decoder.table.now in
    let m = message c.args.self.now.decoder in
    let rest = going_on c.args.frame (Elements c.args.entry c.args.size (c.args.count - c.loop-i.i)) c.loop-i.done in
    subst (FrameReady t m (at_of c.loop-i.state)) (sym c.elements_behind-rest.ensures)
    (rest_ready t m c.args.frame (at_of c.args.state.now) (at_of c.loop-i.state) (c.loop-i.state.steps - c.args.state.now.steps) rest c.loop-i.invariant.turns c.requires.ready)

pub read_tables-requires-clause-budget : goal.read_tables-requires-clause-budget
read_tables-requires-clause-budget g c =
    let t = c.args.self.now.decoder.table.now in
    let came = c.args.self.now.decoder.bytes.value.came in
    let rest = going_on c.args.frame (Elements c.args.entry c.args.size (c.args.count - c.loop-i.i)) c.loop-i.done in
    let less = c.loop-i.invariant.turns.less in
    let so_far = c.loop-i.invariant.steps in
    subst (λ f. c.loop-i.state.steps + turn_work came c.loop-i.state.next f < 2 ^ 40) (sym c.elements_behind-rest.ensures) (omega (arith, less, so_far, c.requires.budget))

pub returns-in-Some-clause-ok : goal.returns-in-Some-clause-ok
returns-in-Some-clause-ok g c =
    let t = c.args.self.now.decoder.table.now in
    let m = message c.args.self.now.decoder in
    let f = c.args.frame in
    let old = c.args.state.now in
    let mid = c.loop-i.state in
    let new = c.read_tables.new.state in
    let turn = c.in_ok-turn.turn in
    let so_far = c.loop-i.invariant.steps in
    let rest = going_on f (Elements c.args.entry c.args.size (c.args.count - c.loop-i.i)) c.loop-i.done in
    turns_then t m f (at_of old) (at_of mid) (mid.steps - old.steps) rest c.loop-i.invariant.turns (at_of new) (new.steps - mid.steps) (new.steps - old.steps) turn
    (omega (arith, so_far, c.in_ok-turn.ensures.rises)) (subst (λ g. Turns t m g (at_of mid) (at_of new) (new.steps - mid.steps) turn) c.elements_behind-rest.ensures c.in_ok-turn.ensures.ok)

pub returns-in-Some-clause-rises : goal.returns-in-Some-clause-rises
returns-in-Some-clause-rises g c =
    let so_far = c.loop-i.invariant.steps in
    omega (arith, so_far, c.in_ok-turn.ensures.rises)

pub returns-in-Some-clause-cost : goal.returns-in-Some-clause-cost
returns-in-Some-clause-cost g c =
    let came = c.args.self.now.decoder.bytes.value.came in
    let mid = c.loop-i.state in
    let new = c.read_tables.new.state in
    let rest = going_on c.args.frame (Elements c.args.entry c.args.size (c.args.count - c.loop-i.i)) c.loop-i.done in
    let less = c.loop-i.invariant.turns.less in
    let so_far = c.loop-i.invariant.steps in
    let cost : new.steps ≤ mid.steps + turn_work came mid.next rest = subst (λ f. new.steps ≤ mid.steps + turn_work came mid.next f) c.elements_behind-rest.ensures c.in_ok-turn.ensures.cost in
    omega (arith, less, so_far, cost)

pub returns-in_err-turn-clause-cost : goal.returns-in_err-turn-clause-cost
returns-in_err-turn-clause-cost g c =
    let came = c.args.self.now.decoder.bytes.value.came in
    let mid = c.loop-i.state in
    let new = c.read_tables.new.state in
    let rest = going_on c.args.frame (Elements c.args.entry c.args.size (c.args.count - c.loop-i.i)) c.loop-i.done in
    let less = c.loop-i.invariant.turns.less in
    let so_far = c.loop-i.invariant.steps in
    let cost : new.steps ≤ mid.steps + turn_work came mid.next rest = subst (λ f. new.steps ≤ mid.steps + turn_work came mid.next f) c.elements_behind-rest.ensures c.in_err-turn.ensures.cost in
    omega (arith, less, so_far, cost)

pub returns-in_err-turn-clause-fault_is_true : goal.returns-in_err-turn-clause-fault_is_true
returns-in_err-turn-clause-fault_is_true g c =
    let t = c.args.self.now.decoder.table.now in
    let m = message c.args.self.now.decoder in
    let f = c.args.frame in
    let old = c.args.state.now in
    let mid = c.loop-i.state in
    let rest = going_on f (Elements c.args.entry c.args.size (c.args.count - c.loop-i.i)) c.loop-i.done in
    passed_on c.from_residual.result c.in_err-turn.field-0.0 _ c.from_residual.ensures.1
    (turns_break t m f (at_of old) (at_of mid) (mid.steps - old.steps) rest c.loop-i.invariant.turns c.in_err-turn.field-0.0
    (subst (λ g. BreaksFrame t m g (at_of mid) c.in_err-turn.field-0.0) c.elements_behind-rest.ensures c.in_err-turn.ensures.fault_is_true))
