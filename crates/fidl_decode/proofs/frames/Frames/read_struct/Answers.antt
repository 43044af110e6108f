use Rattle.fidl_decode_values.specs.Reading.{message}
use Rattle.std.proofs.Common.{◌-◌, subst, arith}
use Rattle.std.specs.Prelude.{Option, Some, None, IfNone, ◌<◌}
use Rattle.fidl_decode_model.specs.declared.frame.Frame.{Frame}
use Rattle.fidl_decode_model.specs.Machine.{Turns, at_of}
use Rattle.fidl_decode_model.proofs.Turning.{passed_on, none_weaker}
use Rattle.fidl_decode_columns.proofs.Leaves.{left_over, turns_then, turns_break}
use Rattle.fidl_decode_values.proofs.ReadyRows.{rest_ready}
use Rattle.fidl_decode.proofs.frames.Frames.read_struct.Goals as goal

pub returns-in_default-clause-ok : goal.returns-in_default-clause-ok
returns-in_default-clause-ok c =
    let t = c.args.self.now.decoder.table.now in
    let m = message c.args.self.now.decoder in
    let one : Turns t m c.args.frame (at_of c.args.state.now) (at_of c.read_nested.new.state) (c.read_nested.new.state.steps - c.args.state.now.steps)
    (left_over None) = subst (λ (o : Option Frame). Turns t m c.args.frame (at_of c.args.state.now) (at_of c.read_nested.new.state)
    (c.read_nested.new.state.steps - c.args.state.now.steps) (left_over o)) c.in_default.is c.in_ok-now.ensures.ok in
    one

pub returns-in_default-clause-ended : goal.returns-in_default-clause-ended
returns-in_default-clause-ended c =
    subst (λ (o : Option Frame). IfNone o (c.args.state.now.steps < c.read_nested.new.state.steps)) c.in_default.is c.in_ok-now.ensures.ended

pub returns-in_default-left : goal.returns-in_default-left
returns-in_default-left c =
    let t = c.args.self.now.decoder.table.now in
    let m = message c.args.self.now.decoder in
    let one : Turns t m c.args.frame (at_of c.args.state.now) (at_of c.read_nested.new.state) (c.read_nested.new.state.steps - c.args.state.now.steps)
    (left_over (Some c.in-Some.now)) = subst (λ (o : Option Frame). Turns t m c.args.frame (at_of c.args.state.now)
    (at_of c.read_nested.new.state) (c.read_nested.new.state.steps - c.args.state.now.steps) (left_over o)) c.in-Some.is c.in_ok-now.ensures.ok in
    let rows_on = c.in_ok-now.ensures.grows in
    record { holds = c.read_nested.ensures.holds; ok = one; grows = rows_on; ended = tt; cost = c.in_ok-now.ensures.cost; fault_is_true = tt }

pub returns-then-left-ne1-clause-ok : goal.returns-then-left-ne1-clause-ok
returns-then-left-ne1-clause-ok c =
    let t = c.args.self.now.decoder.table.now in
    let m = message c.args.self.now.decoder in
    let one : Turns t m c.args.frame (at_of c.args.state.now) (at_of c.read_nested.new.state) (c.read_nested.new.state.steps - c.args.state.now.steps)
    (left_over (Some c.in-Some.now)) = subst (λ (o : Option Frame). Turns t m c.args.frame (at_of c.args.state.now)
    (at_of c.read_nested.new.state) (c.read_nested.new.state.steps - c.args.state.now.steps) (left_over o)) c.in-Some.is c.in_ok-now.ensures.ok in
    one

pub read_last-requires-clause-frame : goal.read_last-requires-clause-frame
read_last-requires-clause-frame c =
    let t = c.args.self.now.decoder.table.now in
    let m = message c.args.self.now.decoder in
    let one : Turns t m c.args.frame (at_of c.args.state.now) (at_of c.read_nested.new.state) (c.read_nested.new.state.steps - c.args.state.now.steps)
    (left_over (Some c.in-Some.now)) = subst (λ (o : Option Frame). Turns t m c.args.frame (at_of c.args.state.now)
    (at_of c.read_nested.new.state) (c.read_nested.new.state.steps - c.args.state.now.steps) (left_over o)) c.in-Some.is c.in_ok-now.ensures.ok in
    one.rest_fine.0

pub read_last-requires-clause-state : goal.read_last-requires-clause-state
read_last-requires-clause-state c =
    let t = c.args.self.now.decoder.table.now in
    let m = message c.args.self.now.decoder in
    let one : Turns t m c.args.frame (at_of c.args.state.now) (at_of c.read_nested.new.state) (c.read_nested.new.state.steps - c.args.state.now.steps)
    (left_over (Some c.in-Some.now)) = subst (λ (o : Option Frame). Turns t m c.args.frame (at_of c.args.state.now)
    (at_of c.read_nested.new.state) (c.read_nested.new.state.steps - c.args.state.now.steps) (left_over o)) c.in-Some.is c.in_ok-now.ensures.ok in
    one.state

pub read_last-requires-clause-budget : goal.read_last-requires-clause-budget
read_last-requires-clause-budget c =
    let t = c.args.self.now.decoder.table.now in
    let m = message c.args.self.now.decoder in
    let one : Turns t m c.args.frame (at_of c.args.state.now) (at_of c.read_nested.new.state) (c.read_nested.new.state.steps - c.args.state.now.steps)
    (left_over (Some c.in-Some.now)) = subst (λ (o : Option Frame). Turns t m c.args.frame (at_of c.args.state.now)
    (at_of c.read_nested.new.state) (c.read_nested.new.state.steps - c.args.state.now.steps) (left_over o)) c.in-Some.is c.in_ok-now.ensures.ok in
    let less_one = one.less in
    let rows_on = c.in_ok-now.ensures.grows in
    omega (arith, less_one, rows_on, c.requires.budget)

pub returns-in_err-below-clause-cost : goal.returns-in_err-below-clause-cost
returns-in_err-below-clause-cost c =
    let t = c.args.self.now.decoder.table.now in
    let m = message c.args.self.now.decoder in
    let one : Turns t m c.args.frame (at_of c.args.state.now) (at_of c.read_nested.new.state) (c.read_nested.new.state.steps - c.args.state.now.steps)
    (left_over (Some c.in-Some.now)) = subst (λ (o : Option Frame). Turns t m c.args.frame (at_of c.args.state.now)
    (at_of c.read_nested.new.state) (c.read_nested.new.state.steps - c.args.state.now.steps) (left_over o)) c.in-Some.is c.in_ok-now.ensures.ok in
    let less_one = one.less in
    let rows_on = c.in_ok-now.ensures.grows in
    omega (arith, less_one, rows_on, c.in_err-below.ensures.cost)

pub returns-in_err-below-clause-fault_is_true : goal.returns-in_err-below-clause-fault_is_true
returns-in_err-below-clause-fault_is_true c =
    let t = c.args.self.now.decoder.table.now in
    let m = message c.args.self.now.decoder in
    let one : Turns t m c.args.frame (at_of c.args.state.now) (at_of c.read_nested.new.state) (c.read_nested.new.state.steps - c.args.state.now.steps)
    (left_over (Some c.in-Some.now)) = subst (λ (o : Option Frame). Turns t m c.args.frame (at_of c.args.state.now)
    (at_of c.read_nested.new.state) (c.read_nested.new.state.steps - c.args.state.now.steps) (left_over o)) c.in-Some.is c.in_ok-now.ensures.ok in
    passed_on c.from_residual-in_err-below.result c.in_err-below.field-0.0 _ c.from_residual-in_err-below.ensures.1
    (turns_break t m c.args.frame (at_of c.args.state.now) (at_of c.read_nested.new.state)
    (c.read_nested.new.state.steps - c.args.state.now.steps) c.in-Some.now one c.in_err-below.field-0.0 c.in_err-below.ensures.fault_is_true)

pub returns-in_default-2-clause-ok : goal.returns-in_default-2-clause-ok
returns-in_default-2-clause-ok c =
    let t = c.args.self.now.decoder.table.now in
    let m = message c.args.self.now.decoder in
    let one : Turns t m c.args.frame (at_of c.args.state.now) (at_of c.read_nested.new.state) (c.read_nested.new.state.steps - c.args.state.now.steps)
    (left_over (Some c.in-Some.now)) = subst (λ (o : Option Frame). Turns t m c.args.frame (at_of c.args.state.now)
    (at_of c.read_nested.new.state) (c.read_nested.new.state.steps - c.args.state.now.steps) (left_over o)) c.in-Some.is c.in_ok-now.ensures.ok in
    let rows_on = c.in_ok-now.ensures.grows in
    let last_on = c.in_ok-below.ensures.grows in
    let two : Turns t m c.in-Some.now (at_of c.read_nested.new.state) (at_of c.read_last.new.state)
    (c.read_last.new.state.steps - c.read_nested.new.state.steps) (left_over None) = subst
    (λ (o : Option Frame). Turns t m c.in-Some.now (at_of c.read_nested.new.state) (at_of c.read_last.new.state)
    (c.read_last.new.state.steps - c.read_nested.new.state.steps) (left_over o)) c.in_default-2.is c.in_ok-below.ensures.ok in
    let held : Turns t m c.args.frame (at_of c.args.state.now) (at_of c.read_last.new.state) (c.read_last.new.state.steps - c.args.state.now.steps)
    (left_over None) = turns_then t m c.args.frame (at_of c.args.state.now) (at_of c.read_nested.new.state)
    (c.read_nested.new.state.steps - c.args.state.now.steps) c.in-Some.now one (at_of c.read_last.new.state)
    (c.read_last.new.state.steps - c.read_nested.new.state.steps) (c.read_last.new.state.steps - c.args.state.now.steps) (left_over None)
    (omega (arith, rows_on, last_on)) two in
    held

pub returns-in_default-2-clause-grows : goal.returns-in_default-2-clause-grows
returns-in_default-2-clause-grows c =
    let rows_on = c.in_ok-now.ensures.grows in
    let last_on = c.in_ok-below.ensures.grows in
    omega (arith, rows_on, last_on)

pub returns-in_default-2-clause-ended : goal.returns-in_default-2-clause-ended
returns-in_default-2-clause-ended c =
    let rows_on = c.in_ok-now.ensures.grows in
    let ended : c.read_nested.new.state.steps < c.read_last.new.state.steps = subst (λ (o : Option Frame). IfNone o (c.read_nested.new.state.steps < c.read_last.new.state.steps)) c.in_default-2.is c.in_ok-below.ensures.ended in
    omega (arith, rows_on, ended)

pub returns-in_default-2-clause-cost : goal.returns-in_default-2-clause-cost
returns-in_default-2-clause-cost c =
    let t = c.args.self.now.decoder.table.now in
    let m = message c.args.self.now.decoder in
    let one : Turns t m c.args.frame (at_of c.args.state.now) (at_of c.read_nested.new.state) (c.read_nested.new.state.steps - c.args.state.now.steps)
    (left_over (Some c.in-Some.now)) = subst (λ (o : Option Frame). Turns t m c.args.frame (at_of c.args.state.now)
    (at_of c.read_nested.new.state) (c.read_nested.new.state.steps - c.args.state.now.steps) (left_over o)) c.in-Some.is c.in_ok-now.ensures.ok in
    let less_one = one.less in
    let rows_on = c.in_ok-now.ensures.grows in
    omega (arith, less_one, rows_on, c.in_ok-below.ensures.cost)

pub read_leaves-requires-clause-frame : goal.read_leaves-requires-clause-frame
read_leaves-requires-clause-frame c =
    let t = c.args.self.now.decoder.table.now in
    let m = message c.args.self.now.decoder in
    let one : Turns t m c.args.frame (at_of c.args.state.now) (at_of c.read_nested.new.state) (c.read_nested.new.state.steps - c.args.state.now.steps)
    (left_over (Some c.in-Some.now)) = subst (λ (o : Option Frame). Turns t m c.args.frame (at_of c.args.state.now)
    (at_of c.read_nested.new.state) (c.read_nested.new.state.steps - c.args.state.now.steps) (left_over o)) c.in-Some.is c.in_ok-now.ensures.ok in
    let rows_on = c.in_ok-now.ensures.grows in
    let last_on = c.in_ok-below.ensures.grows in
    let two : Turns t m c.in-Some.now (at_of c.read_nested.new.state) (at_of c.read_last.new.state)
    (c.read_last.new.state.steps - c.read_nested.new.state.steps) (left_over (Some c.in-Some-2.below)) = subst
    (λ (o : Option Frame). Turns t m c.in-Some.now (at_of c.read_nested.new.state) (at_of c.read_last.new.state)
    (c.read_last.new.state.steps - c.read_nested.new.state.steps) (left_over o)) c.in-Some-2.is c.in_ok-below.ensures.ok in
    let held : Turns t m c.args.frame (at_of c.args.state.now) (at_of c.read_last.new.state) (c.read_last.new.state.steps - c.args.state.now.steps)
    (left_over (Some c.in-Some-2.below)) = turns_then t m c.args.frame (at_of c.args.state.now) (at_of c.read_nested.new.state)
    (c.read_nested.new.state.steps - c.args.state.now.steps) c.in-Some.now one (at_of c.read_last.new.state)
    (c.read_last.new.state.steps - c.read_nested.new.state.steps) (c.read_last.new.state.steps - c.args.state.now.steps)
    (left_over (Some c.in-Some-2.below)) (omega (arith, rows_on, last_on)) two in
    held.rest_fine.0

pub read_leaves-requires-clause-state : goal.read_leaves-requires-clause-state
read_leaves-requires-clause-state c =
    let t = c.args.self.now.decoder.table.now in
    let m = message c.args.self.now.decoder in
    let one : Turns t m c.args.frame (at_of c.args.state.now) (at_of c.read_nested.new.state) (c.read_nested.new.state.steps - c.args.state.now.steps)
    (left_over (Some c.in-Some.now)) = subst (λ (o : Option Frame). Turns t m c.args.frame (at_of c.args.state.now)
    (at_of c.read_nested.new.state) (c.read_nested.new.state.steps - c.args.state.now.steps) (left_over o)) c.in-Some.is c.in_ok-now.ensures.ok in
    let rows_on = c.in_ok-now.ensures.grows in
    let last_on = c.in_ok-below.ensures.grows in
    let two : Turns t m c.in-Some.now (at_of c.read_nested.new.state) (at_of c.read_last.new.state)
    (c.read_last.new.state.steps - c.read_nested.new.state.steps) (left_over (Some c.in-Some-2.below)) = subst
    (λ (o : Option Frame). Turns t m c.in-Some.now (at_of c.read_nested.new.state) (at_of c.read_last.new.state)
    (c.read_last.new.state.steps - c.read_nested.new.state.steps) (left_over o)) c.in-Some-2.is c.in_ok-below.ensures.ok in
    let held : Turns t m c.args.frame (at_of c.args.state.now) (at_of c.read_last.new.state) (c.read_last.new.state.steps - c.args.state.now.steps)
    (left_over (Some c.in-Some-2.below)) = turns_then t m c.args.frame (at_of c.args.state.now) (at_of c.read_nested.new.state)
    (c.read_nested.new.state.steps - c.args.state.now.steps) c.in-Some.now one (at_of c.read_last.new.state)
    (c.read_last.new.state.steps - c.read_nested.new.state.steps) (c.read_last.new.state.steps - c.args.state.now.steps)
    (left_over (Some c.in-Some-2.below)) (omega (arith, rows_on, last_on)) two in
    held.state

pub read_leaves-requires-clause-budget : goal.read_leaves-requires-clause-budget
read_leaves-requires-clause-budget c =
    let t = c.args.self.now.decoder.table.now in
    let m = message c.args.self.now.decoder in
    let one : Turns t m c.args.frame (at_of c.args.state.now) (at_of c.read_nested.new.state) (c.read_nested.new.state.steps - c.args.state.now.steps)
    (left_over (Some c.in-Some.now)) = subst (λ (o : Option Frame). Turns t m c.args.frame (at_of c.args.state.now)
    (at_of c.read_nested.new.state) (c.read_nested.new.state.steps - c.args.state.now.steps) (left_over o)) c.in-Some.is c.in_ok-now.ensures.ok in
    let rows_on = c.in_ok-now.ensures.grows in
    let last_on = c.in_ok-below.ensures.grows in
    let two : Turns t m c.in-Some.now (at_of c.read_nested.new.state) (at_of c.read_last.new.state)
    (c.read_last.new.state.steps - c.read_nested.new.state.steps) (left_over (Some c.in-Some-2.below)) = subst
    (λ (o : Option Frame). Turns t m c.in-Some.now (at_of c.read_nested.new.state) (at_of c.read_last.new.state)
    (c.read_last.new.state.steps - c.read_nested.new.state.steps) (left_over o)) c.in-Some-2.is c.in_ok-below.ensures.ok in
    let held : Turns t m c.args.frame (at_of c.args.state.now) (at_of c.read_last.new.state) (c.read_last.new.state.steps - c.args.state.now.steps)
    (left_over (Some c.in-Some-2.below)) = turns_then t m c.args.frame (at_of c.args.state.now) (at_of c.read_nested.new.state)
    (c.read_nested.new.state.steps - c.args.state.now.steps) c.in-Some.now one (at_of c.read_last.new.state)
    (c.read_last.new.state.steps - c.read_nested.new.state.steps) (c.read_last.new.state.steps - c.args.state.now.steps)
    (left_over (Some c.in-Some-2.below)) (omega (arith, rows_on, last_on)) two in
    let less_held = held.less in
    omega (arith, less_held, rows_on, last_on, c.requires.budget)

pub returns-in_err-inner-clause-cost : goal.returns-in_err-inner-clause-cost
returns-in_err-inner-clause-cost c =
    let t = c.args.self.now.decoder.table.now in
    let m = message c.args.self.now.decoder in
    let one : Turns t m c.args.frame (at_of c.args.state.now) (at_of c.read_nested.new.state) (c.read_nested.new.state.steps - c.args.state.now.steps)
    (left_over (Some c.in-Some.now)) = subst (λ (o : Option Frame). Turns t m c.args.frame (at_of c.args.state.now)
    (at_of c.read_nested.new.state) (c.read_nested.new.state.steps - c.args.state.now.steps) (left_over o)) c.in-Some.is c.in_ok-now.ensures.ok in
    let rows_on = c.in_ok-now.ensures.grows in
    let last_on = c.in_ok-below.ensures.grows in
    let two : Turns t m c.in-Some.now (at_of c.read_nested.new.state) (at_of c.read_last.new.state)
    (c.read_last.new.state.steps - c.read_nested.new.state.steps) (left_over (Some c.in-Some-2.below)) = subst
    (λ (o : Option Frame). Turns t m c.in-Some.now (at_of c.read_nested.new.state) (at_of c.read_last.new.state)
    (c.read_last.new.state.steps - c.read_nested.new.state.steps) (left_over o)) c.in-Some-2.is c.in_ok-below.ensures.ok in
    let held : Turns t m c.args.frame (at_of c.args.state.now) (at_of c.read_last.new.state) (c.read_last.new.state.steps - c.args.state.now.steps)
    (left_over (Some c.in-Some-2.below)) = turns_then t m c.args.frame (at_of c.args.state.now) (at_of c.read_nested.new.state)
    (c.read_nested.new.state.steps - c.args.state.now.steps) c.in-Some.now one (at_of c.read_last.new.state)
    (c.read_last.new.state.steps - c.read_nested.new.state.steps) (c.read_last.new.state.steps - c.args.state.now.steps)
    (left_over (Some c.in-Some-2.below)) (omega (arith, rows_on, last_on)) two in
    let less_held = held.less in
    omega (arith, less_held, rows_on, last_on, c.in_err-inner.ensures.cost)

pub returns-in_err-inner-clause-fault_is_true : goal.returns-in_err-inner-clause-fault_is_true
returns-in_err-inner-clause-fault_is_true c =
    let t = c.args.self.now.decoder.table.now in
    let m = message c.args.self.now.decoder in
    let one : Turns t m c.args.frame (at_of c.args.state.now) (at_of c.read_nested.new.state) (c.read_nested.new.state.steps - c.args.state.now.steps)
    (left_over (Some c.in-Some.now)) = subst (λ (o : Option Frame). Turns t m c.args.frame (at_of c.args.state.now)
    (at_of c.read_nested.new.state) (c.read_nested.new.state.steps - c.args.state.now.steps) (left_over o)) c.in-Some.is c.in_ok-now.ensures.ok in
    let rows_on = c.in_ok-now.ensures.grows in
    let last_on = c.in_ok-below.ensures.grows in
    let two : Turns t m c.in-Some.now (at_of c.read_nested.new.state) (at_of c.read_last.new.state)
    (c.read_last.new.state.steps - c.read_nested.new.state.steps) (left_over (Some c.in-Some-2.below)) = subst
    (λ (o : Option Frame). Turns t m c.in-Some.now (at_of c.read_nested.new.state) (at_of c.read_last.new.state)
    (c.read_last.new.state.steps - c.read_nested.new.state.steps) (left_over o)) c.in-Some-2.is c.in_ok-below.ensures.ok in
    let held : Turns t m c.args.frame (at_of c.args.state.now) (at_of c.read_last.new.state) (c.read_last.new.state.steps - c.args.state.now.steps)
    (left_over (Some c.in-Some-2.below)) = turns_then t m c.args.frame (at_of c.args.state.now) (at_of c.read_nested.new.state)
    (c.read_nested.new.state.steps - c.args.state.now.steps) c.in-Some.now one (at_of c.read_last.new.state)
    (c.read_last.new.state.steps - c.read_nested.new.state.steps) (c.read_last.new.state.steps - c.args.state.now.steps)
    (left_over (Some c.in-Some-2.below)) (omega (arith, rows_on, last_on)) two in
    passed_on c.from_residual-in_err-inner.result c.in_err-inner.field-0.0 _ c.from_residual-in_err-inner.ensures.1
    (turns_break t m c.args.frame (at_of c.args.state.now) (at_of c.read_last.new.state) (c.read_last.new.state.steps - c.args.state.now.steps)
    c.in-Some-2.below held c.in_err-inner.field-0.0 c.in_err-inner.ensures.fault_is_true)

pub returns-clause-ok : goal.returns-clause-ok
returns-clause-ok c =
    let t = c.args.self.now.decoder.table.now in
    let m = message c.args.self.now.decoder in
    let one : Turns t m c.args.frame (at_of c.args.state.now) (at_of c.read_nested.new.state) (c.read_nested.new.state.steps - c.args.state.now.steps)
    (left_over (Some c.in-Some.now)) = subst (λ (o : Option Frame). Turns t m c.args.frame (at_of c.args.state.now)
    (at_of c.read_nested.new.state) (c.read_nested.new.state.steps - c.args.state.now.steps) (left_over o)) c.in-Some.is c.in_ok-now.ensures.ok in
    let rows_on = c.in_ok-now.ensures.grows in
    let last_on = c.in_ok-below.ensures.grows in
    let two : Turns t m c.in-Some.now (at_of c.read_nested.new.state) (at_of c.read_last.new.state)
    (c.read_last.new.state.steps - c.read_nested.new.state.steps) (left_over (Some c.in-Some-2.below)) = subst
    (λ (o : Option Frame). Turns t m c.in-Some.now (at_of c.read_nested.new.state) (at_of c.read_last.new.state)
    (c.read_last.new.state.steps - c.read_nested.new.state.steps) (left_over o)) c.in-Some-2.is c.in_ok-below.ensures.ok in
    let held : Turns t m c.args.frame (at_of c.args.state.now) (at_of c.read_last.new.state) (c.read_last.new.state.steps - c.args.state.now.steps)
    (left_over (Some c.in-Some-2.below)) = turns_then t m c.args.frame (at_of c.args.state.now) (at_of c.read_nested.new.state)
    (c.read_nested.new.state.steps - c.args.state.now.steps) c.in-Some.now one (at_of c.read_last.new.state)
    (c.read_last.new.state.steps - c.read_nested.new.state.steps) (c.read_last.new.state.steps - c.args.state.now.steps)
    (left_over (Some c.in-Some-2.below)) (omega (arith, rows_on, last_on)) two in
    let leaves_on = c.in_ok-inner.ensures.grows in
    turns_then t m c.args.frame (at_of c.args.state.now) (at_of c.read_last.new.state) (c.read_last.new.state.steps - c.args.state.now.steps)
    c.in-Some-2.below held (at_of c.read_leaves.new.state) (c.read_leaves.new.state.steps - c.read_last.new.state.steps)
    (c.read_leaves.new.state.steps - c.args.state.now.steps) (left_over c.in_ok-inner.inner) (omega (arith, rows_on, last_on, leaves_on))
    c.in_ok-inner.ensures.ok

pub returns-clause-grows : goal.returns-clause-grows
returns-clause-grows c =
    let rows_on = c.in_ok-now.ensures.grows in
    let last_on = c.in_ok-below.ensures.grows in
    let leaves_on = c.in_ok-inner.ensures.grows in
    omega (arith, rows_on, last_on, leaves_on)

pub returns-clause-ended : goal.returns-clause-ended
returns-clause-ended c =
    let rows_on = c.in_ok-now.ensures.grows in
    let last_on = c.in_ok-below.ensures.grows in
    none_weaker c.in_ok-inner.inner _ _ (λ lt. omega (arith, rows_on, last_on, lt)) c.in_ok-inner.ensures.ended

pub returns-clause-cost : goal.returns-clause-cost
returns-clause-cost c =
    let t = c.args.self.now.decoder.table.now in
    let m = message c.args.self.now.decoder in
    let one : Turns t m c.args.frame (at_of c.args.state.now) (at_of c.read_nested.new.state) (c.read_nested.new.state.steps - c.args.state.now.steps)
    (left_over (Some c.in-Some.now)) = subst (λ (o : Option Frame). Turns t m c.args.frame (at_of c.args.state.now)
    (at_of c.read_nested.new.state) (c.read_nested.new.state.steps - c.args.state.now.steps) (left_over o)) c.in-Some.is c.in_ok-now.ensures.ok in
    let rows_on = c.in_ok-now.ensures.grows in
    let last_on = c.in_ok-below.ensures.grows in
    let two : Turns t m c.in-Some.now (at_of c.read_nested.new.state) (at_of c.read_last.new.state)
    (c.read_last.new.state.steps - c.read_nested.new.state.steps) (left_over (Some c.in-Some-2.below)) = subst
    (λ (o : Option Frame). Turns t m c.in-Some.now (at_of c.read_nested.new.state) (at_of c.read_last.new.state)
    (c.read_last.new.state.steps - c.read_nested.new.state.steps) (left_over o)) c.in-Some-2.is c.in_ok-below.ensures.ok in
    let held : Turns t m c.args.frame (at_of c.args.state.now) (at_of c.read_last.new.state) (c.read_last.new.state.steps - c.args.state.now.steps)
    (left_over (Some c.in-Some-2.below)) = turns_then t m c.args.frame (at_of c.args.state.now) (at_of c.read_nested.new.state)
    (c.read_nested.new.state.steps - c.args.state.now.steps) c.in-Some.now one (at_of c.read_last.new.state)
    (c.read_last.new.state.steps - c.read_nested.new.state.steps) (c.read_last.new.state.steps - c.args.state.now.steps)
    (left_over (Some c.in-Some-2.below)) (omega (arith, rows_on, last_on)) two in
    let less_held = held.less in
    omega (arith, less_held, rows_on, last_on, c.in_ok-inner.ensures.cost)

pub read_leaves-requires-clause-ready : goal.read_leaves-requires-clause-ready
read_leaves-requires-clause-ready c =
    let t = c.args.self.now.decoder.table.now in
    let m = message c.args.self.now.decoder in
    let one : Turns t m c.args.frame (at_of c.args.state.now) (at_of c.read_nested.new.state) (c.read_nested.new.state.steps - c.args.state.now.steps)
    (left_over (Some c.in-Some.now)) = subst (λ (o : Option Frame). Turns t m c.args.frame (at_of c.args.state.now)
    (at_of c.read_nested.new.state) (c.read_nested.new.state.steps - c.args.state.now.steps) (left_over o)) c.in-Some.is c.in_ok-now.ensures.ok in
    let rows_on = c.in_ok-now.ensures.grows in
    let last_on = c.in_ok-below.ensures.grows in
    let two : Turns t m c.in-Some.now (at_of c.read_nested.new.state) (at_of c.read_last.new.state)
    (c.read_last.new.state.steps - c.read_nested.new.state.steps) (left_over (Some c.in-Some-2.below)) = subst
    (λ (o : Option Frame). Turns t m c.in-Some.now (at_of c.read_nested.new.state) (at_of c.read_last.new.state)
    (c.read_last.new.state.steps - c.read_nested.new.state.steps) (left_over o)) c.in-Some-2.is c.in_ok-below.ensures.ok in
    let held : Turns t m c.args.frame (at_of c.args.state.now) (at_of c.read_last.new.state) (c.read_last.new.state.steps - c.args.state.now.steps)
    (left_over (Some c.in-Some-2.below)) = turns_then t m c.args.frame (at_of c.args.state.now) (at_of c.read_nested.new.state)
    (c.read_nested.new.state.steps - c.args.state.now.steps) c.in-Some.now one (at_of c.read_last.new.state)
    (c.read_last.new.state.steps - c.read_nested.new.state.steps) (c.read_last.new.state.steps - c.args.state.now.steps)
    (left_over (Some c.in-Some-2.below)) (omega (arith, rows_on, last_on)) two in
    rest_ready t m c.args.frame (at_of c.args.state.now) (at_of c.read_last.new.state) (c.read_last.new.state.steps - c.args.state.now.steps) c.in-Some-2.below held c.requires.ready
