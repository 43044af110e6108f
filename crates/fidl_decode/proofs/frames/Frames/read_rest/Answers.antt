use Rattle.fidl_decode_values.specs.Reading.{message}
use Rattle.std.proofs.Common.{rules, ◌≡◌, ◌-◌, ℕ, subst, arith, refl}
use Rattle.std.specs.Prelude.{Option, Some, None}
use Rattle.std.specs.Prelude.{IfNone, ◌<◌}
use Rattle.fidl_decode_model.specs.declared.frame.Frame.{Frame}
use Rattle.fidl_decode_model.specs.declared.frame.Turn.{Turn}
use Rattle.fidl_decode_model.specs.Machine.{Turns, at_of}
use Rattle.fidl_decode_model.proofs.Turning.{passed_on}
use Rattle.fidl_decode_columns.proofs.Leaves.{left_over, turns_start, turns_then, turns_break, turns_below, turns_over, below_breaks}
use Rattle.fidl_decode.proofs.Tail.{turns_tail, turns_done}
use Rattle.fidl_decode.proofs.Onward.{leaves_on, turn_on}
use Rattle.fidl_decode.proofs.frames.Frames.read_rest.Goals as goal

pub loop-now-init : goal.loop-now-init
loop-now-init c =
    let none : 0 ≡ c.args.state.now.steps - c.args.state.now.steps = omega arith in
    record {
      holds = c.requires.holds;
      turns = subst (λ (n : ℕ). Turns c.args.self.now.decoder.table.now (message c.args.self.now.decoder) c.args.frame
          (at_of c.args.state.now) (at_of c.args.state.now) n (left_over (Some c.args.frame))) none
          (turns_start c.args.self.now.decoder.table.now (message c.args.self.now.decoder) c.args.frame (at_of c.args.state.now) c.requires.frame c.requires.state
          c.args.frame refl);
      steps = omega arith;
    }

pub read_next_leaves-requires-clause-frame : goal.read_next_leaves-requires-clause-frame
read_next_leaves-requires-clause-frame c =
    c.loop-now.invariant.turns.rest_fine.0

pub read_next_leaves-requires-clause-state : goal.read_next_leaves-requires-clause-state
read_next_leaves-requires-clause-state c =
    c.loop-now.invariant.turns.state

pub read_next_leaves-requires-clause-budget : goal.read_next_leaves-requires-clause-budget
read_next_leaves-requires-clause-budget c =
    let so_far = c.loop-now.invariant.steps in
    let less = c.loop-now.invariant.turns.less in
    omega (arith, less, so_far, c.requires.budget)

pub returns-in_err-now-clause-cost : goal.returns-in_err-now-clause-cost
returns-in_err-now-clause-cost c =
    let so_far = c.loop-now.invariant.steps in
    let less = c.loop-now.invariant.turns.less in
    omega (arith, less, so_far, c.in_err-now.ensures.cost)

pub returns-in_default-clause-ok : goal.returns-in_default-clause-ok
returns-in_default-clause-ok c =
    let so_far = c.loop-now.invariant.steps in
    let grows = c.in_ok-now.ensures.grows in
    let two = subst (λ (o : Option Frame). Turns c.args.self.now.decoder.table.now (message c.args.self.now.decoder) c.loop-now.rest (at_of c.loop-now.state) (at_of c.read_next_leaves.new.state)
    (c.read_next_leaves.new.state.steps - c.loop-now.state.steps) (left_over o)) c.in_default.is c.in_ok-now.ensures.ok in
    let held : Turns c.args.self.now.decoder.table.now (message c.args.self.now.decoder) c.args.frame (at_of c.args.state.now) (at_of c.read_next_leaves.new.state)
    (c.read_next_leaves.new.state.steps - c.args.state.now.steps) (left_over None) = turns_then c.args.self.now.decoder.table.now (message c.args.self.now.decoder)
    c.args.frame (at_of c.args.state.now) (at_of c.loop-now.state) (c.loop-now.state.steps - c.args.state.now.steps) c.loop-now.rest
    c.loop-now.invariant.turns (at_of c.read_next_leaves.new.state) _ _ (left_over None) (omega (arith, so_far, grows)) two in
    held

pub returns-in_default-clause-grows : goal.returns-in_default-clause-grows
returns-in_default-clause-grows c =
    let so_far = c.loop-now.invariant.steps in
    let ended : c.loop-now.state.steps < c.read_next_leaves.new.state.steps = subst (λ (o : Option Frame). IfNone o (c.loop-now.state.steps < c.read_next_leaves.new.state.steps)) c.in_default.is c.in_ok-now.ensures.ended in
    omega (arith, so_far, ended)

pub returns-in_default-clause-cost : goal.returns-in_default-clause-cost
returns-in_default-clause-cost c =
    let so_far = c.loop-now.invariant.steps in
    let less = c.loop-now.invariant.turns.less in
    omega (arith, less, so_far, c.in_ok-now.ensures.cost)

pub take_row-requires-clause-frame : goal.take_row-requires-clause-frame
take_row-requires-clause-frame c =
    let so_far = c.loop-now.invariant.steps in
    let grows = c.in_ok-now.ensures.grows in
    let held = leaves_on c.args.self.now.decoder.table.now (message c.args.self.now.decoder) c.args.frame c.loop-now.rest c.in-Some.now (at_of c.args.state.now) (at_of c.loop-now.state) (at_of c.read_next_leaves.new.state)
    c.args.state.now.steps c.loop-now.state.steps c.read_next_leaves.new.state.steps c.loop-now.invariant.turns so_far grows _ c.in-Some.is c.in_ok-now.ensures.ok in
    held.rest_fine.0

pub take_row-requires-clause-state : goal.take_row-requires-clause-state
take_row-requires-clause-state c =
    let so_far = c.loop-now.invariant.steps in
    let grows = c.in_ok-now.ensures.grows in
    let held = leaves_on c.args.self.now.decoder.table.now (message c.args.self.now.decoder) c.args.frame c.loop-now.rest c.in-Some.now (at_of c.args.state.now) (at_of c.loop-now.state) (at_of c.read_next_leaves.new.state)
    c.args.state.now.steps c.loop-now.state.steps c.read_next_leaves.new.state.steps c.loop-now.invariant.turns so_far grows _ c.in-Some.is c.in_ok-now.ensures.ok in
    held.state

pub take_row-requires-clause-budget : goal.take_row-requires-clause-budget
take_row-requires-clause-budget c =
    let so_far = c.loop-now.invariant.steps in
    let grows = c.in_ok-now.ensures.grows in
    let held = leaves_on c.args.self.now.decoder.table.now (message c.args.self.now.decoder) c.args.frame c.loop-now.rest c.in-Some.now (at_of c.args.state.now) (at_of c.loop-now.state) (at_of c.read_next_leaves.new.state)
    c.args.state.now.steps c.loop-now.state.steps c.read_next_leaves.new.state.steps c.loop-now.invariant.turns so_far grows _ c.in-Some.is c.in_ok-now.ensures.ok in
    let less_now = held.less in
    omega (arith, less_now, so_far, grows, c.requires.budget)

pub returns-in_err-turn-clause-cost : goal.returns-in_err-turn-clause-cost
returns-in_err-turn-clause-cost c =
    let so_far = c.loop-now.invariant.steps in
    let grows = c.in_ok-now.ensures.grows in
    let held = leaves_on c.args.self.now.decoder.table.now (message c.args.self.now.decoder) c.args.frame c.loop-now.rest c.in-Some.now (at_of c.args.state.now) (at_of c.loop-now.state) (at_of c.read_next_leaves.new.state)
    c.args.state.now.steps c.loop-now.state.steps c.read_next_leaves.new.state.steps c.loop-now.invariant.turns so_far grows _ c.in-Some.is c.in_ok-now.ensures.ok in
    let less_now = held.less in
    omega (arith, less_now, so_far, grows, c.in_err-turn.ensures.spends.most)

pub returns-in_default-rest-clause-ok : goal.returns-in_default-rest-clause-ok
returns-in_default-rest-clause-ok c =
    let so_far = c.loop-now.invariant.steps in
    let grows = c.in_ok-now.ensures.grows in
    let held = leaves_on c.args.self.now.decoder.table.now (message c.args.self.now.decoder) c.args.frame c.loop-now.rest c.in-Some.now (at_of c.args.state.now) (at_of c.loop-now.state) (at_of c.read_next_leaves.new.state)
    c.args.state.now.steps c.loop-now.state.steps c.read_next_leaves.new.state.steps c.loop-now.invariant.turns so_far grows _ c.in-Some.is c.in_ok-now.ensures.ok in
    let rises = c.in_ok-turn.ensures.spends.least in
    let read = turn_on c.args.self.now.decoder.table.now (message c.args.self.now.decoder) c.args.frame c.in-Some.now (at_of c.args.state.now) (at_of c.read_next_leaves.new.state) (at_of c.take_row.new.state)
    c.args.state.now.steps c.read_next_leaves.new.state.steps c.take_row.new.state.steps c.in_ok-turn.turn held (omega (arith, so_far, grows)) (omega (arith, rises)) c.in_ok-turn.ensures.ok in
    read

pub returns-in_default-rest-clause-grows : goal.returns-in_default-rest-clause-grows
returns-in_default-rest-clause-grows c =
    let so_far = c.loop-now.invariant.steps in
    omega (arith, so_far, c.in_ok-now.ensures.grows, c.in_ok-turn.ensures.spends.least)

pub returns-in_default-rest-clause-cost : goal.returns-in_default-rest-clause-cost
returns-in_default-rest-clause-cost c =
    let so_far = c.loop-now.invariant.steps in
    let grows = c.in_ok-now.ensures.grows in
    let held = leaves_on c.args.self.now.decoder.table.now (message c.args.self.now.decoder) c.args.frame c.loop-now.rest c.in-Some.now (at_of c.args.state.now) (at_of c.loop-now.state) (at_of c.read_next_leaves.new.state)
    c.args.state.now.steps c.loop-now.state.steps c.read_next_leaves.new.state.steps c.loop-now.invariant.turns so_far grows _ c.in-Some.is c.in_ok-now.ensures.ok in
    let less_now = held.less in
    omega (arith, less_now, so_far, grows, c.in_ok-turn.ensures.spends.most)

pub read_next_leaves-requires-in-loop-now-clause-frame : goal.read_next_leaves-requires-in-loop-now-clause-frame
read_next_leaves-requires-in-loop-now-clause-frame c =
    let so_far = c.loop-now.invariant.steps in
    let grows = c.in_ok-now.ensures.grows in
    let held = leaves_on c.args.self.now.decoder.table.now (message c.args.self.now.decoder) c.args.frame c.loop-now.rest c.in-Some.now (at_of c.args.state.now) (at_of c.loop-now.state) (at_of c.read_next_leaves.new.state)
    c.args.state.now.steps c.loop-now.state.steps c.read_next_leaves.new.state.steps c.loop-now.invariant.turns so_far grows _ c.in-Some.is c.in_ok-now.ensures.ok in
    let rises = c.in_ok-turn.ensures.spends.least in
    let read = turn_on c.args.self.now.decoder.table.now (message c.args.self.now.decoder) c.args.frame c.in-Some.now (at_of c.args.state.now) (at_of c.read_next_leaves.new.state) (at_of c.take_row.new.state)
    c.args.state.now.steps c.read_next_leaves.new.state.steps c.take_row.new.state.steps c.in_ok-turn.turn held (omega (arith, so_far, grows)) (omega (arith, rises)) c.in_ok-turn.ensures.ok in
    let turn : c.in_ok-turn.turn ≡ record { below = Some c.in-Some-below-2.below; rest = Some c.in-Some-rest.after } = λ i. record { below = c.in-Some-below-2.is i; rest = c.in-Some-rest.is i } in
    let both = subst (λ (x : Turn). Turns c.args.self.now.decoder.table.now (message c.args.self.now.decoder) c.args.frame (at_of c.args.state.now) (at_of c.take_row.new.state) (c.take_row.new.state.steps - c.args.state.now.steps) x) turn read in
    both.below_fine.0

pub read_next_leaves-requires-in-loop-now-clause-state : goal.read_next_leaves-requires-in-loop-now-clause-state
read_next_leaves-requires-in-loop-now-clause-state c =
    let so_far = c.loop-now.invariant.steps in
    let grows = c.in_ok-now.ensures.grows in
    let held = leaves_on c.args.self.now.decoder.table.now (message c.args.self.now.decoder) c.args.frame c.loop-now.rest c.in-Some.now (at_of c.args.state.now) (at_of c.loop-now.state) (at_of c.read_next_leaves.new.state)
    c.args.state.now.steps c.loop-now.state.steps c.read_next_leaves.new.state.steps c.loop-now.invariant.turns so_far grows _ c.in-Some.is c.in_ok-now.ensures.ok in
    let rises = c.in_ok-turn.ensures.spends.least in
    let read = turn_on c.args.self.now.decoder.table.now (message c.args.self.now.decoder) c.args.frame c.in-Some.now (at_of c.args.state.now) (at_of c.read_next_leaves.new.state) (at_of c.take_row.new.state)
    c.args.state.now.steps c.read_next_leaves.new.state.steps c.take_row.new.state.steps c.in_ok-turn.turn held (omega (arith, so_far, grows)) (omega (arith, rises)) c.in_ok-turn.ensures.ok in
    let turn : c.in_ok-turn.turn ≡ record { below = Some c.in-Some-below-2.below; rest = Some c.in-Some-rest.after } = λ i. record { below = c.in-Some-below-2.is i; rest = c.in-Some-rest.is i } in
    let both = subst (λ (x : Turn). Turns c.args.self.now.decoder.table.now (message c.args.self.now.decoder) c.args.frame (at_of c.args.state.now) (at_of c.take_row.new.state) (c.take_row.new.state.steps - c.args.state.now.steps) x) turn read in
    both.state

pub read_next_leaves-requires-in-loop-now-clause-budget : goal.read_next_leaves-requires-in-loop-now-clause-budget
read_next_leaves-requires-in-loop-now-clause-budget c =
    let so_far = c.loop-now.invariant.steps in
    let grows = c.in_ok-now.ensures.grows in
    let held = leaves_on c.args.self.now.decoder.table.now (message c.args.self.now.decoder) c.args.frame c.loop-now.rest c.in-Some.now (at_of c.args.state.now) (at_of c.loop-now.state) (at_of c.read_next_leaves.new.state)
    c.args.state.now.steps c.loop-now.state.steps c.read_next_leaves.new.state.steps c.loop-now.invariant.turns so_far grows _ c.in-Some.is c.in_ok-now.ensures.ok in
    let rises = c.in_ok-turn.ensures.spends.least in
    let read = turn_on c.args.self.now.decoder.table.now (message c.args.self.now.decoder) c.args.frame c.in-Some.now (at_of c.args.state.now) (at_of c.read_next_leaves.new.state) (at_of c.take_row.new.state)
    c.args.state.now.steps c.read_next_leaves.new.state.steps c.take_row.new.state.steps c.in_ok-turn.turn held (omega (arith, so_far, grows)) (omega (arith, rises)) c.in_ok-turn.ensures.ok in
    let turn : c.in_ok-turn.turn ≡ record { below = Some c.in-Some-below-2.below; rest = Some c.in-Some-rest.after } = λ i. record { below = c.in-Some-below-2.is i; rest = c.in-Some-rest.is i } in
    let both = subst (λ (x : Turn). Turns c.args.self.now.decoder.table.now (message c.args.self.now.decoder) c.args.frame (at_of c.args.state.now) (at_of c.take_row.new.state) (c.take_row.new.state.steps - c.args.state.now.steps) x) turn read in
    let less_both = both.less in
    omega (arith, less_both, so_far, grows, rises, c.requires.budget)

pub returns-in_err-inner-clause-cost : goal.returns-in_err-inner-clause-cost
returns-in_err-inner-clause-cost c =
    let so_far = c.loop-now.invariant.steps in
    let grows = c.in_ok-now.ensures.grows in
    let held = leaves_on c.args.self.now.decoder.table.now (message c.args.self.now.decoder) c.args.frame c.loop-now.rest c.in-Some.now (at_of c.args.state.now) (at_of c.loop-now.state) (at_of c.read_next_leaves.new.state)
    c.args.state.now.steps c.loop-now.state.steps c.read_next_leaves.new.state.steps c.loop-now.invariant.turns so_far grows _ c.in-Some.is c.in_ok-now.ensures.ok in
    let rises = c.in_ok-turn.ensures.spends.least in
    let read = turn_on c.args.self.now.decoder.table.now (message c.args.self.now.decoder) c.args.frame c.in-Some.now (at_of c.args.state.now) (at_of c.read_next_leaves.new.state) (at_of c.take_row.new.state)
    c.args.state.now.steps c.read_next_leaves.new.state.steps c.take_row.new.state.steps c.in_ok-turn.turn held (omega (arith, so_far, grows)) (omega (arith, rises)) c.in_ok-turn.ensures.ok in
    let turn : c.in_ok-turn.turn ≡ record { below = Some c.in-Some-below-2.below; rest = Some c.in-Some-rest.after } = λ i. record { below = c.in-Some-below-2.is i; rest = c.in-Some-rest.is i } in
    let both = subst (λ (x : Turn). Turns c.args.self.now.decoder.table.now (message c.args.self.now.decoder) c.args.frame (at_of c.args.state.now) (at_of c.take_row.new.state) (c.take_row.new.state.steps - c.args.state.now.steps) x) turn read in
    let less_both = both.less in
    omega (arith, less_both, so_far, grows, rises, c.in_err-inner.ensures.cost)

pub returns-in-loop-now-clause-ok : goal.returns-in-loop-now-clause-ok
returns-in-loop-now-clause-ok c =
    let so_far = c.loop-now.invariant.steps in
    let grows = c.in_ok-now.ensures.grows in
    let held = leaves_on c.args.self.now.decoder.table.now (message c.args.self.now.decoder) c.args.frame c.loop-now.rest c.in-Some.now (at_of c.args.state.now) (at_of c.loop-now.state) (at_of c.read_next_leaves.new.state)
    c.args.state.now.steps c.loop-now.state.steps c.read_next_leaves.new.state.steps c.loop-now.invariant.turns so_far grows _ c.in-Some.is c.in_ok-now.ensures.ok in
    let rises = c.in_ok-turn.ensures.spends.least in
    let read = turn_on c.args.self.now.decoder.table.now (message c.args.self.now.decoder) c.args.frame c.in-Some.now (at_of c.args.state.now) (at_of c.read_next_leaves.new.state) (at_of c.take_row.new.state)
    c.args.state.now.steps c.read_next_leaves.new.state.steps c.take_row.new.state.steps c.in_ok-turn.turn held (omega (arith, so_far, grows)) (omega (arith, rises)) c.in_ok-turn.ensures.ok in
    let turn : c.in_ok-turn.turn ≡ record { below = Some c.in-Some-below-2.below; rest = Some c.in-Some-rest.after } = λ i. record { below = c.in-Some-below-2.is i; rest = c.in-Some-rest.is i } in
    let both = subst (λ (x : Turn). Turns c.args.self.now.decoder.table.now (message c.args.self.now.decoder) c.args.frame (at_of c.args.state.now) (at_of c.take_row.new.state) (c.take_row.new.state.steps - c.args.state.now.steps) x) turn read in
    let on = c.in_ok-inner.ensures.grows in
    let three = subst (λ (o : Option Frame). Turns c.args.self.now.decoder.table.now (message c.args.self.now.decoder) c.in-Some-below-2.below
    (at_of c.take_row.new.state) (at_of c.read_next_leaves-in-loop-now.new.state)
    (c.read_next_leaves-in-loop-now.new.state.steps - c.take_row.new.state.steps) (left_over o)) c.in-Some-2.is c.in_ok-inner.ensures.ok in
    turns_below c.args.self.now.decoder.table.now (message c.args.self.now.decoder) c.args.frame (at_of c.args.state.now) (at_of c.take_row.new.state)
    (c.take_row.new.state.steps - c.args.state.now.steps) c.in-Some-below-2.below c.in-Some-rest.after both
    (at_of c.read_next_leaves-in-loop-now.new.state) _ _ (Some c.in-Some-2.inner) (omega (arith, so_far, grows, rises, on)) three

pub loop-now-preserved-in_default-below-2 : goal.loop-now-preserved-in_default-below-2
loop-now-preserved-in_default-below-2 c =
    let so_far = c.loop-now.invariant.steps in
    let grows = c.in_ok-now.ensures.grows in
    let held = leaves_on c.args.self.now.decoder.table.now (message c.args.self.now.decoder) c.args.frame c.loop-now.rest c.in-Some.now (at_of c.args.state.now) (at_of c.loop-now.state) (at_of c.read_next_leaves.new.state)
    c.args.state.now.steps c.loop-now.state.steps c.read_next_leaves.new.state.steps c.loop-now.invariant.turns so_far grows _ c.in-Some.is c.in_ok-now.ensures.ok in
    let rises = c.in_ok-turn.ensures.spends.least in
    let read = turn_on c.args.self.now.decoder.table.now (message c.args.self.now.decoder) c.args.frame c.in-Some.now (at_of c.args.state.now) (at_of c.read_next_leaves.new.state) (at_of c.take_row.new.state)
    c.args.state.now.steps c.read_next_leaves.new.state.steps c.take_row.new.state.steps c.in_ok-turn.turn held (omega (arith, so_far, grows)) (omega (arith, rises)) c.in_ok-turn.ensures.ok in
    let turn : c.in_ok-turn.turn ≡ left_over (Some c.in-Some-rest.after) = λ i. record { below = c.in_default-below-2.is i; rest = c.in-Some-rest.is i } in
    let alone = subst (λ (x : Turn). Turns c.args.self.now.decoder.table.now (message c.args.self.now.decoder) c.args.frame (at_of c.args.state.now) (at_of c.take_row.new.state) (c.take_row.new.state.steps - c.args.state.now.steps) x) turn read in
    record { holds = c.take_row.ensures.holds; turns = alone; steps = omega (arith, so_far, grows, rises) }

pub loop-now-preserved-then-is_over : goal.loop-now-preserved-then-is_over
loop-now-preserved-then-is_over c =
    let so_far = c.loop-now.invariant.steps in
    let grows = c.in_ok-now.ensures.grows in
    let held = leaves_on c.args.self.now.decoder.table.now (message c.args.self.now.decoder) c.args.frame c.loop-now.rest c.in-Some.now (at_of c.args.state.now) (at_of c.loop-now.state) (at_of c.read_next_leaves.new.state)
    c.args.state.now.steps c.loop-now.state.steps c.read_next_leaves.new.state.steps c.loop-now.invariant.turns so_far grows _ c.in-Some.is c.in_ok-now.ensures.ok in
    let rises = c.in_ok-turn.ensures.spends.least in
    let read = turn_on c.args.self.now.decoder.table.now (message c.args.self.now.decoder) c.args.frame c.in-Some.now (at_of c.args.state.now) (at_of c.read_next_leaves.new.state) (at_of c.take_row.new.state)
    c.args.state.now.steps c.read_next_leaves.new.state.steps c.take_row.new.state.steps c.in_ok-turn.turn held (omega (arith, so_far, grows)) (omega (arith, rises)) c.in_ok-turn.ensures.ok in
    let turn : c.in_ok-turn.turn ≡ record { below = Some c.in-Some-below.below; rest = Some c.in-Some-rest.after } = λ i. record { below = c.in-Some-below.is i; rest = c.in-Some-rest.is i } in
    let both = subst (λ (x : Turn). Turns c.args.self.now.decoder.table.now (message c.args.self.now.decoder) c.args.frame (at_of c.args.state.now) (at_of c.take_row.new.state) (c.take_row.new.state.steps - c.args.state.now.steps) x) turn read in
    let over = c.is_over.ensures.0 c.if-is_over.true in
    record {
      holds = c.take_row.ensures.holds;
      turns = turns_tail c.args.self.now.decoder.table.now c.args.self.now.decoder.fine (message c.args.self.now.decoder)
          c.args.frame c.in-Some-below.below c.in-Some-rest.after (at_of c.args.state.now) (at_of c.take_row.new.state)
          (c.take_row.new.state.steps - c.args.state.now.steps) both over;
      steps = omega (arith, so_far, grows, rises);
    }

pub loop-now-preserved : goal.loop-now-preserved
loop-now-preserved c =
    let so_far = c.loop-now.invariant.steps in
    let grows = c.in_ok-now.ensures.grows in
    let held = leaves_on c.args.self.now.decoder.table.now (message c.args.self.now.decoder) c.args.frame c.loop-now.rest c.in-Some.now (at_of c.args.state.now) (at_of c.loop-now.state) (at_of c.read_next_leaves.new.state)
    c.args.state.now.steps c.loop-now.state.steps c.read_next_leaves.new.state.steps c.loop-now.invariant.turns so_far grows _ c.in-Some.is c.in_ok-now.ensures.ok in
    let rises = c.in_ok-turn.ensures.spends.least in
    let read = turn_on c.args.self.now.decoder.table.now (message c.args.self.now.decoder) c.args.frame c.in-Some.now (at_of c.args.state.now) (at_of c.read_next_leaves.new.state) (at_of c.take_row.new.state)
    c.args.state.now.steps c.read_next_leaves.new.state.steps c.take_row.new.state.steps c.in_ok-turn.turn held (omega (arith, so_far, grows)) (omega (arith, rises)) c.in_ok-turn.ensures.ok in
    let turn : c.in_ok-turn.turn ≡ record { below = Some c.in-Some-below-2.below; rest = Some c.in-Some-rest.after } = λ i. record { below = c.in-Some-below-2.is i; rest = c.in-Some-rest.is i } in
    let both = subst (λ (x : Turn). Turns c.args.self.now.decoder.table.now (message c.args.self.now.decoder) c.args.frame (at_of c.args.state.now) (at_of c.take_row.new.state) (c.take_row.new.state.steps - c.args.state.now.steps) x) turn read in
    let on = c.in_ok-inner.ensures.grows in
    let three = subst (λ (o : Option Frame). Turns c.args.self.now.decoder.table.now (message c.args.self.now.decoder) c.in-Some-below-2.below
    (at_of c.take_row.new.state) (at_of c.read_next_leaves-in-loop-now.new.state)
    (c.read_next_leaves-in-loop-now.new.state.steps - c.take_row.new.state.steps) (left_over o)) c.in_default-2.is c.in_ok-inner.ensures.ok in
    record {
      holds = c.read_next_leaves-in-loop-now.ensures.holds;
      turns = turns_over c.args.self.now.decoder.table.now (message c.args.self.now.decoder) c.args.frame
          (at_of c.args.state.now) (at_of c.take_row.new.state) (c.take_row.new.state.steps - c.args.state.now.steps) c.in-Some-below-2.below
          c.in-Some-rest.after both (at_of c.read_next_leaves-in-loop-now.new.state) _ _ (omega (arith, so_far, grows, rises, on)) three;
      steps = omega
          (arith, so_far, grows, rises, on);
    }

pub returns-in_err-now-clause-fault_is_true : goal.returns-in_err-now-clause-fault_is_true
returns-in_err-now-clause-fault_is_true c =
    let h = (turns_break c.args.self.now.decoder.table.now (message c.args.self.now.decoder) c.args.frame (at_of c.args.state.now) (at_of c.loop-now.state)
    (c.loop-now.state.steps - c.args.state.now.steps) c.loop-now.rest c.loop-now.invariant.turns _ c.in_err-now.ensures.fault_is_true) in search (rules, h)

pub returns-in_err-turn-clause-fault_is_true : goal.returns-in_err-turn-clause-fault_is_true
returns-in_err-turn-clause-fault_is_true c =
    let so_far = c.loop-now.invariant.steps in
    let grows = c.in_ok-now.ensures.grows in
    let held = leaves_on c.args.self.now.decoder.table.now (message c.args.self.now.decoder) c.args.frame c.loop-now.rest c.in-Some.now (at_of c.args.state.now) (at_of c.loop-now.state) (at_of c.read_next_leaves.new.state)
    c.args.state.now.steps c.loop-now.state.steps c.read_next_leaves.new.state.steps c.loop-now.invariant.turns so_far grows _ c.in-Some.is c.in_ok-now.ensures.ok in
    passed_on c.from_residual-in_err-turn.result c.in_err-turn.field-0.0 _ c.from_residual-in_err-turn.ensures.1
    (turns_break c.args.self.now.decoder.table.now (message c.args.self.now.decoder) c.args.frame (at_of c.args.state.now) (at_of c.read_next_leaves.new.state) (c.read_next_leaves.new.state.steps - c.args.state.now.steps) c.in-Some.now held _ c.in_err-turn.ensures.fault_is_true)

pub returns-in_err-inner-clause-fault_is_true : goal.returns-in_err-inner-clause-fault_is_true
returns-in_err-inner-clause-fault_is_true c =
    let so_far = c.loop-now.invariant.steps in
    let grows = c.in_ok-now.ensures.grows in
    let held = leaves_on c.args.self.now.decoder.table.now (message c.args.self.now.decoder) c.args.frame c.loop-now.rest c.in-Some.now (at_of c.args.state.now) (at_of c.loop-now.state) (at_of c.read_next_leaves.new.state)
    c.args.state.now.steps c.loop-now.state.steps c.read_next_leaves.new.state.steps c.loop-now.invariant.turns so_far grows _ c.in-Some.is c.in_ok-now.ensures.ok in
    let rises = c.in_ok-turn.ensures.spends.least in
    let read = turn_on c.args.self.now.decoder.table.now (message c.args.self.now.decoder) c.args.frame c.in-Some.now (at_of c.args.state.now) (at_of c.read_next_leaves.new.state) (at_of c.take_row.new.state)
    c.args.state.now.steps c.read_next_leaves.new.state.steps c.take_row.new.state.steps c.in_ok-turn.turn held (omega (arith, so_far, grows)) (omega (arith, rises)) c.in_ok-turn.ensures.ok in
    let turn : c.in_ok-turn.turn ≡ record { below = Some c.in-Some-below-2.below; rest = Some c.in-Some-rest.after } = λ i. record { below = c.in-Some-below-2.is i; rest = c.in-Some-rest.is i } in
    let both = subst (λ (x : Turn). Turns c.args.self.now.decoder.table.now (message c.args.self.now.decoder) c.args.frame (at_of c.args.state.now) (at_of c.take_row.new.state) (c.take_row.new.state.steps - c.args.state.now.steps) x) turn read in
    passed_on c.from_residual-in_err-inner.result c.in_err-inner.field-0.0 _ c.from_residual-in_err-inner.ensures.1
    (below_breaks c.args.self.now.decoder.table.now (message c.args.self.now.decoder) c.args.frame (at_of c.args.state.now) (at_of c.take_row.new.state) (c.take_row.new.state.steps - c.args.state.now.steps)
    c.in-Some-below-2.below c.in-Some-rest.after both _ c.in_err-inner.ensures.fault_is_true)

pub read_next_leaves-requires-in-loop-now-clause-ready : goal.read_next_leaves-requires-in-loop-now-clause-ready
read_next_leaves-requires-in-loop-now-clause-ready c =
    let so_far = c.loop-now.invariant.steps in
    let grows = c.in_ok-now.ensures.grows in
    let held = leaves_on c.args.self.now.decoder.table.now (message c.args.self.now.decoder) c.args.frame c.loop-now.rest c.in-Some.now (at_of c.args.state.now) (at_of c.loop-now.state) (at_of c.read_next_leaves.new.state)
    c.args.state.now.steps c.loop-now.state.steps c.read_next_leaves.new.state.steps c.loop-now.invariant.turns so_far grows _ c.in-Some.is c.in_ok-now.ensures.ok in
    let rises = c.in_ok-turn.ensures.spends.least in
    let read = turn_on c.args.self.now.decoder.table.now (message c.args.self.now.decoder) c.args.frame c.in-Some.now (at_of c.args.state.now) (at_of c.read_next_leaves.new.state) (at_of c.take_row.new.state)
    c.args.state.now.steps c.read_next_leaves.new.state.steps c.take_row.new.state.steps c.in_ok-turn.turn held (omega (arith, so_far, grows)) (omega (arith, rises)) c.in_ok-turn.ensures.ok in
    let turn : c.in_ok-turn.turn ≡ record { below = Some c.in-Some-below-2.below; rest = Some c.in-Some-rest.after } = λ i. record { below = c.in-Some-below-2.is i; rest = c.in-Some-rest.is i } in
    let both = subst (λ (x : Turn). Turns c.args.self.now.decoder.table.now (message c.args.self.now.decoder) c.args.frame (at_of c.args.state.now) (at_of c.take_row.new.state) (c.take_row.new.state.steps - c.args.state.now.steps) x) turn read in
    let p = both.moves c.requires.ready.0 c.requires.ready.1 in
    (p.ahead, p.below_clear)

pub returns-in_default-below-clause-ok : goal.returns-in_default-below-clause-ok
returns-in_default-below-clause-ok c =
    let so_far = c.loop-now.invariant.steps in
    let grows = c.in_ok-now.ensures.grows in
    let held = leaves_on c.args.self.now.decoder.table.now (message c.args.self.now.decoder) c.args.frame c.loop-now.rest c.in-Some.now (at_of c.args.state.now) (at_of c.loop-now.state) (at_of c.read_next_leaves.new.state)
    c.args.state.now.steps c.loop-now.state.steps c.read_next_leaves.new.state.steps c.loop-now.invariant.turns so_far grows _ c.in-Some.is c.in_ok-now.ensures.ok in
    let rises = c.in_ok-turn.ensures.spends.least in
    let read = turn_on c.args.self.now.decoder.table.now (message c.args.self.now.decoder) c.args.frame c.in-Some.now (at_of c.args.state.now) (at_of c.read_next_leaves.new.state) (at_of c.take_row.new.state)
    c.args.state.now.steps c.read_next_leaves.new.state.steps c.take_row.new.state.steps c.in_ok-turn.turn held (omega (arith, so_far, grows)) (omega (arith, rises)) c.in_ok-turn.ensures.ok in
    let turn : c.in_ok-turn.turn ≡ left_over (Some c.in-Some-rest.after) = λ i. record { below = c.in_default-below.is i; rest = c.in-Some-rest.is i } in
    let alone = subst (λ (x : Turn). Turns c.args.self.now.decoder.table.now (message c.args.self.now.decoder) c.args.frame (at_of c.args.state.now) (at_of c.take_row.new.state) (c.take_row.new.state.steps - c.args.state.now.steps) x) turn read in
    turns_done c.args.self.now.decoder.table.now c.args.self.now.decoder.fine (message c.args.self.now.decoder) c.args.frame c.in-Some-rest.after (at_of c.args.state.now) (at_of c.take_row.new.state)
    (c.take_row.new.state.steps - c.args.state.now.steps) alone (c.is_over.ensures.0 c.if-is_over.true)

pub take_row-requires-clause-ready : goal.take_row-requires-clause-ready
take_row-requires-clause-ready c =
    let so_far = c.loop-now.invariant.steps in
    let grows = c.in_ok-now.ensures.grows in
    let held = leaves_on c.args.self.now.decoder.table.now (message c.args.self.now.decoder) c.args.frame c.loop-now.rest c.in-Some.now (at_of c.args.state.now) (at_of c.loop-now.state) (at_of c.read_next_leaves.new.state)
    c.args.state.now.steps c.loop-now.state.steps c.read_next_leaves.new.state.steps c.loop-now.invariant.turns so_far grows _ c.in-Some.is c.in_ok-now.ensures.ok in
    let p = held.moves c.requires.ready.0 c.requires.ready.1 in
    (p.ahead, p.rest_clear)

pub returns-in_default-left : goal.returns-in_default-left
returns-in_default-left c =
    let so_far = c.loop-now.invariant.steps in
    let grows = c.in_ok-now.ensures.grows in
    let held = leaves_on c.args.self.now.decoder.table.now (message c.args.self.now.decoder) c.args.frame c.loop-now.rest c.in-Some.now (at_of c.args.state.now) (at_of c.loop-now.state) (at_of c.read_next_leaves.new.state)
    c.args.state.now.steps c.loop-now.state.steps c.read_next_leaves.new.state.steps c.loop-now.invariant.turns so_far grows _ c.in-Some.is c.in_ok-now.ensures.ok in
    let less = c.loop-now.invariant.turns.less in
    let cost = c.in_ok-now.ensures.cost in
    record { holds = c.in_ok-now.ensures.holds; ok = held; grows = omega (arith, so_far, grows); cost = omega (arith, less, so_far, cost); fault_is_true = tt }
