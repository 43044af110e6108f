use Rattle.fidl_decode_values.specs.Reading.{message}
use Rattle.fidl_decode_values.proofs.Fitting.{not_fewer}
use Rattle.fidl_decode_values.proofs.Unchanged.{no_ok}
use Rattle.std.proofs.Common.{◌≡◌, ◌+◌, ◌-◌, arith, ◌∙◌, ap, subst}
use Rattle.fidl_decode_model.specs.declared.frame.Remaining.TheVariants.{Elements}
use Rattle.fidl_decode_model.specs.Rows.{Row}
use Rattle.fidl_decode_model.specs.Machine.{at_of, Turns}
use Rattle.fidl_decode_model.proofs.Turning.{on_ok_from, passed_on}
use Rattle.std.proofs.lemmas.Result.{IfErr-weaker}
use Rattle.fidl_decode_columns.proofs.Leaves.{going_on, next_size, next_room, next_leaf_breaks, next_turns, over_room, over_turns, over_breaks, elements_next, elements_over, no_zeros, turns_stay, left_over, same_frame}
use Rattle.fidl_decode_model.specs.declared.frame.Frame.{Frame}
use Rattle.std.specs.Prelude.{Some}
use Rattle.fidl_decode_values.proofs.ReadyRows.{element_ready, over_free}
use Rattle.fidl_decode.proofs.frames.Frames.read_each.Goals as goal

pub overflow_add-place : goal.overflow_add-place
overflow_add-place c =
    let is = c.loop-i.invariant.turns.rest_fine.0.left in
    let one = elements_next c.args.self.now.decoder.table.now c.args.entry c.args.size c.loop-i.i c.args.count c.loop-i.done is c.loop-i-test.true in
    let room = next_room c.args.self.now.decoder.table.now c.args.self.now.decoder.fine (message c.args.self.now.decoder) c.args.frame (at_of c.args.state.now)
    (at_of c.loop-i.state) (c.loop-i.state.steps - c.args.state.now.steps)
    (going_on c.args.frame (Elements c.args.entry c.args.size (c.args.count - c.loop-i.i)) c.loop-i.done) c.loop-i.invariant.turns
    (let x : Row = record { offset = c.loop-i.done; entry = c.args.entry } in x)
    (Elements c.args.entry c.args.size (c.args.count - (c.loop-i.i + 1))) one in
    let before = room.0 in
    let fits = room.1 in
    let within = room.2 in
    record { fits = omega (arith, before, fits, within) }

pub read_leaf-requires-clause-room : goal.read_leaf-requires-clause-room
read_leaf-requires-clause-room c =
    let is = c.loop-i.invariant.turns.rest_fine.0.left in
    let one = elements_next c.args.self.now.decoder.table.now c.args.entry c.args.size c.loop-i.i c.args.count c.loop-i.done is c.loop-i-test.true in
    let room = next_room c.args.self.now.decoder.table.now c.args.self.now.decoder.fine (message c.args.self.now.decoder) c.args.frame (at_of c.args.state.now)
    (at_of c.loop-i.state) (c.loop-i.state.steps - c.args.state.now.steps)
    (going_on c.args.frame (Elements c.args.entry c.args.size (c.args.count - c.loop-i.i)) c.loop-i.done) c.loop-i.invariant.turns
    (let x : Row = record { offset = c.loop-i.done; entry = c.args.entry } in x)
    (Elements c.args.entry c.args.size (c.args.count - (c.loop-i.i + 1))) one in
    let before = room.0 in
    let fits = room.1 in
    let within = room.2 in
    omega (arith, before, fits, within)

pub overflow_add-done : goal.overflow_add-done
overflow_add-done c =
    let is = c.loop-i.invariant.turns.rest_fine.0.left in
    let one = elements_next c.args.self.now.decoder.table.now c.args.entry c.args.size c.loop-i.i c.args.count c.loop-i.done is c.loop-i-test.true in
    let room = next_room c.args.self.now.decoder.table.now c.args.self.now.decoder.fine (message c.args.self.now.decoder) c.args.frame (at_of c.args.state.now)
    (at_of c.loop-i.state) (c.loop-i.state.steps - c.args.state.now.steps)
    (going_on c.args.frame (Elements c.args.entry c.args.size (c.args.count - c.loop-i.i)) c.loop-i.done) c.loop-i.invariant.turns
    (let x : Row = record { offset = c.loop-i.done; entry = c.args.entry } in x)
    (Elements c.args.entry c.args.size (c.args.count - (c.loop-i.i + 1))) one in
    let before = room.0 in
    let fits = room.1 in
    let within = room.2 in
    let own = next_size c.args.self.now.decoder.table.now c.args.self.now.decoder.fine (message c.args.self.now.decoder) c.args.frame (at_of c.args.state.now)
    (at_of c.loop-i.state) (c.loop-i.state.steps - c.args.state.now.steps)
    (going_on c.args.frame (Elements c.args.entry c.args.size (c.args.count - c.loop-i.i)) c.loop-i.done) c.loop-i.invariant.turns
    (let x : Row = record { offset = c.loop-i.done; entry = c.args.entry } in x)
    (Elements c.args.entry c.args.size (c.args.count - (c.loop-i.i + 1))) one in
    record { fits = omega (arith, before, fits, within, own, is) }

pub loop-i-preserved : goal.loop-i-preserved
loop-i-preserved c =
    let is = c.loop-i.invariant.turns.rest_fine.0.left in
    let one = elements_next c.args.self.now.decoder.table.now c.args.entry c.args.size c.loop-i.i c.args.count c.loop-i.done is c.loop-i-test.true in
    let own = next_size c.args.self.now.decoder.table.now c.args.self.now.decoder.fine (message c.args.self.now.decoder) c.args.frame (at_of c.args.state.now)
    (at_of c.loop-i.state) (c.loop-i.state.steps - c.args.state.now.steps)
    (going_on c.args.frame (Elements c.args.entry c.args.size (c.args.count - c.loop-i.i)) c.loop-i.done) c.loop-i.invariant.turns
    (let x : Row = record { offset = c.loop-i.done; entry = c.args.entry } in x)
    (Elements c.args.entry c.args.size (c.args.count - (c.loop-i.i + 1))) one in
    let none : c.args.frame.base + c.loop-i.done - (c.args.frame.base + c.loop-i.done) ≡ 0 = omega arith in
    let so_far = c.loop-i.invariant.steps in
    record {
      holds = c.read_leaf.ensures.holds;
      turns = next_turns c.args.self.now.decoder.table.now c.args.self.now.decoder.fine (message c.args.self.now.decoder)
          c.args.frame (at_of c.args.state.now) (at_of c.loop-i.state) (c.loop-i.state.steps - c.args.state.now.steps)
          (going_on c.args.frame (Elements c.args.entry c.args.size (c.args.count - c.loop-i.i)) c.loop-i.done) c.loop-i.invariant.turns
          (let x : Row = record { offset = c.loop-i.done; entry = c.args.entry } in x)
          (Elements c.args.entry c.args.size (c.args.count - (c.loop-i.i + 1))) one tt is tt (at_of c.read_leaf.new.state) (c.loop-i.done + c.args.size)
          _ (c.read_leaf.new.state.steps - c.args.state.now.steps) (omega (arith, own, is))
          (omega (arith, (not_fewer _ _ _ c.in_ok-read_leaf.ensures.spends), so_far))
          (omega (arith, (not_fewer _ _ _ c.in_ok-read_leaf.ensures.spends), so_far))
          (no_zeros c.args.self.now.decoder.bytes.value.came (c.args.frame.base + c.loop-i.done) _ none) c.in_ok-read_leaf.ensures.ok;
      steps = omega
          (arith, (not_fewer _ _ _ c.in_ok-read_leaf.ensures.spends), so_far);
    }

pub overflow_add-at : goal.overflow_add-at
overflow_add-at c =
    let room = over_room c.args.self.now.decoder.table.now c.args.self.now.decoder.fine (message c.args.self.now.decoder) c.args.frame (at_of c.args.state.now)
    (at_of c.loop-i.state) (c.loop-i.state.steps - c.args.state.now.steps)
    (going_on c.args.frame (Elements c.args.entry c.args.size (c.args.count - c.loop-i.i)) c.loop-i.done) c.loop-i.invariant.turns in
    let before = room.0 in
    let within = room.1 in
    record { fits = omega (arith, before, within) }

pub overflow_sub-state : goal.overflow_sub-state
overflow_sub-state c =
    let room = over_room c.args.self.now.decoder.table.now c.args.self.now.decoder.fine (message c.args.self.now.decoder) c.args.frame (at_of c.args.state.now)
    (at_of c.loop-i.state) (c.loop-i.state.steps - c.args.state.now.steps)
    (going_on c.args.frame (Elements c.args.entry c.args.size (c.args.count - c.loop-i.i)) c.loop-i.done) c.loop-i.invariant.turns in
    let before = room.0 in
    let within = room.1 in
    omega (arith, before, within)

pub zeros_at-requires-clause-order : goal.zeros_at-requires-clause-order
zeros_at-requires-clause-order c =
    let room = over_room c.args.self.now.decoder.table.now c.args.self.now.decoder.fine (message c.args.self.now.decoder) c.args.frame (at_of c.args.state.now)
    (at_of c.loop-i.state) (c.loop-i.state.steps - c.args.state.now.steps)
    (going_on c.args.frame (Elements c.args.entry c.args.size (c.args.count - c.loop-i.i)) c.loop-i.done) c.loop-i.invariant.turns in
    let before = room.0 in
    let within = room.1 in
    omega (arith, before, within)

pub returns-clause-ok : goal.returns-clause-ok
returns-clause-ok c =
    let over = elements_over c.args.self.now.decoder.table.now c.args.entry c.args.size c.loop-i.i c.args.count c.loop-i.done (omega (arith, c.loop-i-test.false)) in
    let so_far = c.loop-i.invariant.steps in
    on_ok_from c.zeros_at.result (λ z. over_turns c.args.self.now.decoder.table.now c.args.self.now.decoder.fine (message c.args.self.now.decoder) c.args.frame
    (at_of c.args.state.now) (at_of c.loop-i.state) (c.loop-i.state.steps - c.args.state.now.steps)
    (going_on c.args.frame (Elements c.args.entry c.args.size (c.args.count - c.loop-i.i)) c.loop-i.done) c.loop-i.invariant.turns over tt _
    (omega (arith, so_far)) (omega (arith, so_far)) z) c.zeros_at.ensures.ok

pub returns-in_err-read_leaf-clause-fault_is_true : goal.returns-in_err-read_leaf-clause-fault_is_true
returns-in_err-read_leaf-clause-fault_is_true c =
    let is = c.loop-i.invariant.turns.rest_fine.0.left in
    let one = elements_next c.args.self.now.decoder.table.now c.args.entry c.args.size c.loop-i.i c.args.count c.loop-i.done is c.loop-i-test.true in
    passed_on c.from_residual.result c.in_err-read_leaf.field-0.0 _ c.from_residual.ensures.1
    (next_leaf_breaks c.args.self.now.decoder.table.now c.args.self.now.decoder.fine (message c.args.self.now.decoder) c.args.frame (at_of c.args.state.now)
    (at_of c.loop-i.state) (c.loop-i.state.steps - c.args.state.now.steps)
    (going_on c.args.frame (Elements c.args.entry c.args.size (c.args.count - c.loop-i.i)) c.loop-i.done) c.loop-i.invariant.turns
    (let x : Row = record { offset = c.loop-i.done; entry = c.args.entry } in x)
    (Elements c.args.entry c.args.size (c.args.count - (c.loop-i.i + 1))) one tt _
    (no_zeros c.args.self.now.decoder.bytes.value.came (c.args.frame.base + c.loop-i.done) _
    (let none : (c.args.frame.base + c.loop-i.done) - (c.args.frame.base + c.loop-i.done) ≡ 0 = omega arith in none))
    c.in_err-read_leaf.ensures.fault_is_true)

pub returns-clause-fault_is_true : goal.returns-clause-fault_is_true
returns-clause-fault_is_true c =
    let over = elements_over c.args.self.now.decoder.table.now c.args.entry c.args.size c.loop-i.i c.args.count c.loop-i.done (omega (arith, c.loop-i-test.false)) in
    IfErr-weaker c.zeros_at.result _ _ (λ fault bad. over_breaks c.args.self.now.decoder.table.now c.args.self.now.decoder.fine (message c.args.self.now.decoder) c.args.frame
    (at_of c.args.state.now) (at_of c.loop-i.state) (c.loop-i.state.steps - c.args.state.now.steps)
    (going_on c.args.frame (Elements c.args.entry c.args.size (c.args.count - c.loop-i.i)) c.loop-i.done) c.loop-i.invariant.turns over tt fault
    bad) c.zeros_at.ensures.fault_is_true

pub returns-in_err-read_leaf-clause-cost : goal.returns-in_err-read_leaf-clause-cost
returns-in_err-read_leaf-clause-cost c =
    let is = c.loop-i.invariant.turns.rest_fine.0.left in
    let one = elements_next c.args.self.now.decoder.table.now c.args.entry c.args.size c.loop-i.i c.args.count c.loop-i.done is c.loop-i-test.true in
    let room = next_room c.args.self.now.decoder.table.now c.args.self.now.decoder.fine (message c.args.self.now.decoder) c.args.frame (at_of c.args.state.now)
    (at_of c.loop-i.state) (c.loop-i.state.steps - c.args.state.now.steps)
    (going_on c.args.frame (Elements c.args.entry c.args.size (c.args.count - c.loop-i.i)) c.loop-i.done) c.loop-i.invariant.turns
    (let x : Row = record { offset = c.loop-i.done; entry = c.args.entry } in x)
    (Elements c.args.entry c.args.size (c.args.count - (c.loop-i.i + 1))) one in
    let spend = room.3 in
    let less = c.loop-i.invariant.turns.less in
    let so_far = c.loop-i.invariant.steps in
    omega (arith, spend, less, so_far, c.in_err-read_leaf.ensures.spends.most)

pub read_leaf-requires-clause-entry : goal.read_leaf-requires-clause-entry
read_leaf-requires-clause-entry c = c.requires.entry

pub read_leaf-requires-clause-kind : goal.read_leaf-requires-clause-kind
read_leaf-requires-clause-kind c = c.requires.kind

pub read_leaf-requires-clause-leaf : goal.read_leaf-requires-clause-leaf
read_leaf-requires-clause-leaf c = c.requires.leaf

pub returns-in_err-read_leaf-clause-ok : goal.returns-in_err-read_leaf-clause-ok
returns-in_err-read_leaf-clause-ok c = no_ok c.from_residual.result c.in_err-read_leaf.field-0.0 _ c.from_residual.ensures.1

pub returns-in_err-read_leaf-clause-ended : goal.returns-in_err-read_leaf-clause-ended
returns-in_err-read_leaf-clause-ended c = no_ok c.from_residual.result c.in_err-read_leaf.field-0.0 _ c.from_residual.ensures.1

pub loop-i-init : goal.loop-i-init
loop-i-init c =
    let all : c.args.count ≡ c.args.count - 0 = omega arith in
    record {
      holds = c.requires.holds;
      turns = subst (λ (g : Frame). Turns c.args.self.now.decoder.table.now (message c.args.self.now.decoder) c.args.frame (at_of c.args.state.now) (at_of c.args.state.now) (c.args.state.now.steps - c.args.state.now.steps) (left_over (Some g)))
          (same_frame c.args.frame (Elements c.args.entry c.args.size c.args.count) c.requires.left ∙ ap (λ n. going_on c.args.frame (Elements c.args.entry c.args.size n) c.args.frame.done) all)
          (turns_stay c.args.self.now.decoder.table.now (message c.args.self.now.decoder) c.args.frame (at_of c.args.state.now) c.requires.frame c.requires.state _ (omega arith));
      steps = omega arith;
    }

pub read_leaf-requires-clause-ready : goal.read_leaf-requires-clause-ready
read_leaf-requires-clause-ready c =
    let t = c.args.self.now.decoder.table.now in
    let m = message c.args.self.now.decoder in
    element_ready t c.args.self.now.decoder.fine m c.args.frame (at_of c.args.state.now) (at_of c.loop-i.state) (c.loop-i.state.steps - c.args.state.now.steps) c.args.entry c.args.size c.args.count c.loop-i.i c.loop-i.done c.loop-i.invariant.turns c.requires.ready c.loop-i-test.true

pub zeros_at-requires-clause-free : goal.zeros_at-requires-clause-free
zeros_at-requires-clause-free c =
    let t = c.args.self.now.decoder.table.now in
    let m = message c.args.self.now.decoder in
    over_free t c.args.self.now.decoder.fine m c.args.frame (at_of c.args.state.now) (at_of c.loop-i.state) (c.loop-i.state.steps - c.args.state.now.steps) (going_on c.args.frame (Elements c.args.entry c.args.size (c.args.count - c.loop-i.i)) c.loop-i.done) c.loop-i.invariant.turns c.requires.ready

pub returns-clause-ended : goal.returns-clause-ended
returns-clause-ended c = on_ok_from c.zeros_at.result (λ z. omega (arith, c.loop-i.invariant.steps)) c.zeros_at.ensures.ok
