use Rattle.fidl_decode_values.specs.Reading.{message}
use Rattle.fidl_decode_values.proofs.Fitting.{one_more}
use Rattle.std.proofs.Common.{◌≡◌, ◌-◌, Option, Some, subst, arith}
use Rattle.fidl_decode_model.specs.declared.frame.Frame.{Frame}
use Rattle.fidl_decode_model.specs.declared.frame.Turn.{Turn}
use Rattle.fidl_decode_model.specs.Machine.{Turns, at_of}
use Rattle.fidl_decode_model.proofs.Turning.{passed_on}
use Rattle.fidl_decode_columns.proofs.Leaves.{left_over, turns_stay, turns_break, turns_below, turns_over, below_breaks}
use Rattle.fidl_decode.proofs.Onward.{turn_on}
use Rattle.fidl_decode.proofs.frames.Frames.take_rows.Goals as goal

pub loop-turn-init : goal.loop-turn-init
loop-turn-init c =
    record {
      holds = c.requires.holds;
      left = c.requires.left;
      turns = turns_stay c.args.self.now.decoder.table.now (message c.args.self.now.decoder) c.args.frame (at_of c.args.state.now) c.requires.frame c.requires.state _ (omega arith);
      steps = omega arith;
    }

pub pass_or_take_row-requires-clause-frame : goal.pass_or_take_row-requires-clause-frame
pass_or_take_row-requires-clause-frame c =
    c.loop-turn.invariant.turns.rest_fine.0

pub pass_or_take_row-requires-clause-left : goal.pass_or_take_row-requires-clause-left
pass_or_take_row-requires-clause-left c =
    c.loop-turn.invariant.left

pub pass_or_take_row-requires-clause-holds : goal.pass_or_take_row-requires-clause-holds
pass_or_take_row-requires-clause-holds c =
    c.loop-turn.invariant.holds

pub pass_or_take_row-requires-clause-state : goal.pass_or_take_row-requires-clause-state
pass_or_take_row-requires-clause-state c =
    c.loop-turn.invariant.turns.state

pub pass_or_take_row-requires-clause-ready : goal.pass_or_take_row-requires-clause-ready
pass_or_take_row-requires-clause-ready c =
    let p = c.loop-turn.invariant.turns.moves c.requires.ready.0 c.requires.ready.1 in
    (p.ahead, p.rest_clear)

pub pass_or_take_row-requires-clause-budget : goal.pass_or_take_row-requires-clause-budget
pass_or_take_row-requires-clause-budget c =
    let so_far = c.loop-turn.invariant.steps in
    let less = c.loop-turn.invariant.turns.less in
    omega (arith, less, so_far, c.requires.budget)

pub returns-in_err-turn-clause-cost : goal.returns-in_err-turn-clause-cost
returns-in_err-turn-clause-cost c =
    let so_far = c.loop-turn.invariant.steps in
    let less = c.loop-turn.invariant.turns.less in
    let rises = one_more _ _ _ c.in_err-turn.ensures.spends in
    omega (arith, less, so_far, c.in_err-turn.ensures.spends.most)

pub returns-in_err-turn-clause-fault_is_true : goal.returns-in_err-turn-clause-fault_is_true
returns-in_err-turn-clause-fault_is_true c =
    passed_on c.from_residual.result c.in_err-turn.field-0.0 _ c.from_residual.ensures.1
    (turns_break c.args.self.now.decoder.table.now (message c.args.self.now.decoder) c.args.frame (at_of c.args.state.now) (at_of c.loop-turn.state) (c.loop-turn.state.steps - c.args.state.now.steps) c.loop-turn.rest c.loop-turn.invariant.turns _
    c.in_err-turn.ensures.fault_is_true)

pub returns-in_default-clause-ok : goal.returns-in_default-clause-ok
returns-in_default-clause-ok c =
    let t = c.args.self.now.decoder.table.now in
    let m = message c.args.self.now.decoder in
    let f = c.args.frame in
    let old = at_of c.args.state.now in
    let new = at_of c.pass_or_take_row.new.state in
    let so_far = c.loop-turn.invariant.steps in
    let rises = one_more _ _ _ c.in_ok-turn.ensures.spends in
    let read = turn_on t m f c.loop-turn.rest old (at_of c.loop-turn.state) new c.args.state.now.steps c.loop-turn.state.steps c.pass_or_take_row.new.state.steps c.in_ok-turn.turn c.loop-turn.invariant.turns so_far (omega (arith, rises))
    c.in_ok-turn.ensures.ok in
    read

pub returns-in_default-clause-rises : goal.returns-in_default-clause-rises
returns-in_default-clause-rises c =
    let t = c.args.self.now.decoder.table.now in
    let m = message c.args.self.now.decoder in
    let f = c.args.frame in
    let old = at_of c.args.state.now in
    let new = at_of c.pass_or_take_row.new.state in
    let so_far = c.loop-turn.invariant.steps in
    let rises = one_more _ _ _ c.in_ok-turn.ensures.spends in
    let read = turn_on t m f c.loop-turn.rest old (at_of c.loop-turn.state) new c.args.state.now.steps c.loop-turn.state.steps c.pass_or_take_row.new.state.steps c.in_ok-turn.turn c.loop-turn.invariant.turns so_far (omega (arith, rises))
    c.in_ok-turn.ensures.ok in
    let less = read.less in
    omega (arith, so_far, rises)

pub returns-in_default-clause-cost : goal.returns-in_default-clause-cost
returns-in_default-clause-cost c =
    let t = c.args.self.now.decoder.table.now in
    let m = message c.args.self.now.decoder in
    let f = c.args.frame in
    let old = at_of c.args.state.now in
    let new = at_of c.pass_or_take_row.new.state in
    let so_far = c.loop-turn.invariant.steps in
    let rises = one_more _ _ _ c.in_ok-turn.ensures.spends in
    let read = turn_on t m f c.loop-turn.rest old (at_of c.loop-turn.state) new c.args.state.now.steps c.loop-turn.state.steps c.pass_or_take_row.new.state.steps c.in_ok-turn.turn c.loop-turn.invariant.turns so_far (omega (arith, rises))
    c.in_ok-turn.ensures.ok in
    let less = read.less in
    omega (arith, less, so_far, rises)

pub returns-in_default-left : goal.returns-in_default-left
returns-in_default-left c =
    let t = c.args.self.now.decoder.table.now in
    let m = message c.args.self.now.decoder in
    let f = c.args.frame in
    let old = at_of c.args.state.now in
    let new = at_of c.pass_or_take_row.new.state in
    let so_far = c.loop-turn.invariant.steps in
    let rises = one_more _ _ _ c.in_ok-turn.ensures.spends in
    let read = turn_on t m f c.loop-turn.rest old (at_of c.loop-turn.state) new c.args.state.now.steps c.loop-turn.state.steps c.pass_or_take_row.new.state.steps c.in_ok-turn.turn c.loop-turn.invariant.turns so_far (omega (arith, rises))
    c.in_ok-turn.ensures.ok in
    let less = read.less in
    record { holds = c.pass_or_take_row.ensures.holds; ok = read; rises = omega (arith, so_far, rises); cost = omega (arith, less, so_far, rises); fault_is_true = tt }

pub returns-then-leaf_is_next-clause-ok : goal.returns-then-leaf_is_next-clause-ok
returns-then-leaf_is_next-clause-ok c =
    let t = c.args.self.now.decoder.table.now in
    let m = message c.args.self.now.decoder in
    let f = c.args.frame in
    let old = at_of c.args.state.now in
    let new = at_of c.pass_or_take_row.new.state in
    let so_far = c.loop-turn.invariant.steps in
    let rises = one_more _ _ _ c.in_ok-turn.ensures.spends in
    let read = turn_on t m f c.loop-turn.rest old (at_of c.loop-turn.state) new c.args.state.now.steps c.loop-turn.state.steps c.pass_or_take_row.new.state.steps c.in_ok-turn.turn c.loop-turn.invariant.turns so_far (omega (arith, rises))
    c.in_ok-turn.ensures.ok in
    read

pub returns-then-leaf_is_next-clause-rises : goal.returns-then-leaf_is_next-clause-rises
returns-then-leaf_is_next-clause-rises c =
    let t = c.args.self.now.decoder.table.now in
    let m = message c.args.self.now.decoder in
    let f = c.args.frame in
    let old = at_of c.args.state.now in
    let new = at_of c.pass_or_take_row.new.state in
    let so_far = c.loop-turn.invariant.steps in
    let rises = one_more _ _ _ c.in_ok-turn.ensures.spends in
    let read = turn_on t m f c.loop-turn.rest old (at_of c.loop-turn.state) new c.args.state.now.steps c.loop-turn.state.steps c.pass_or_take_row.new.state.steps c.in_ok-turn.turn c.loop-turn.invariant.turns so_far (omega (arith, rises))
    c.in_ok-turn.ensures.ok in
    let less = read.less in
    omega (arith, so_far, rises)

pub returns-then-leaf_is_next-clause-cost : goal.returns-then-leaf_is_next-clause-cost
returns-then-leaf_is_next-clause-cost c =
    let t = c.args.self.now.decoder.table.now in
    let m = message c.args.self.now.decoder in
    let f = c.args.frame in
    let old = at_of c.args.state.now in
    let new = at_of c.pass_or_take_row.new.state in
    let so_far = c.loop-turn.invariant.steps in
    let rises = one_more _ _ _ c.in_ok-turn.ensures.spends in
    let read = turn_on t m f c.loop-turn.rest old (at_of c.loop-turn.state) new c.args.state.now.steps c.loop-turn.state.steps c.pass_or_take_row.new.state.steps c.in_ok-turn.turn c.loop-turn.invariant.turns so_far (omega (arith, rises))
    c.in_ok-turn.ensures.ok in
    let less = read.less in
    omega (arith, less, so_far, rises)

pub loop-turn-preserved-in_default-below : goal.loop-turn-preserved-in_default-below
loop-turn-preserved-in_default-below c =
    let t = c.args.self.now.decoder.table.now in
    let m = message c.args.self.now.decoder in
    let f = c.args.frame in
    let old = at_of c.args.state.now in
    let new = at_of c.pass_or_take_row.new.state in
    let so_far = c.loop-turn.invariant.steps in
    let rises = one_more _ _ _ c.in_ok-turn.ensures.spends in
    let read = turn_on t m f c.loop-turn.rest old (at_of c.loop-turn.state) new c.args.state.now.steps c.loop-turn.state.steps c.pass_or_take_row.new.state.steps c.in_ok-turn.turn c.loop-turn.invariant.turns so_far (omega (arith, rises))
    c.in_ok-turn.ensures.ok in
    let turn : c.in_ok-turn.turn ≡ left_over (Some c.in-Some.after) = λ i. record { below = c.in_default-below.is i; rest = c.in-Some.is i } in
    let alone = subst (λ (x : Turn). Turns t m f old new (c.pass_or_take_row.new.state.steps - c.args.state.now.steps) x) turn read in
    record { holds = c.pass_or_take_row.ensures.holds; left = c.in-Rows.is; turns = alone; steps = omega (arith, so_far, rises) }

pub read_next_leaves-requires-clause-frame : goal.read_next_leaves-requires-clause-frame
read_next_leaves-requires-clause-frame c =
    let t = c.args.self.now.decoder.table.now in
    let m = message c.args.self.now.decoder in
    let f = c.args.frame in
    let old = at_of c.args.state.now in
    let new = at_of c.pass_or_take_row.new.state in
    let so_far = c.loop-turn.invariant.steps in
    let rises = one_more _ _ _ c.in_ok-turn.ensures.spends in
    let read = turn_on t m f c.loop-turn.rest old (at_of c.loop-turn.state) new c.args.state.now.steps c.loop-turn.state.steps c.pass_or_take_row.new.state.steps c.in_ok-turn.turn c.loop-turn.invariant.turns so_far (omega (arith, rises))
    c.in_ok-turn.ensures.ok in
    let turn : c.in_ok-turn.turn ≡ record { below = Some c.in-Some-below.below; rest = Some c.in-Some.after } = λ i. record { below = c.in-Some-below.is i; rest = c.in-Some.is i } in
    let both = subst (λ (x : Turn). Turns t m f old new (c.pass_or_take_row.new.state.steps - c.args.state.now.steps) x) turn read in
    both.below_fine.0

pub read_next_leaves-requires-clause-ready : goal.read_next_leaves-requires-clause-ready
read_next_leaves-requires-clause-ready c =
    let t = c.args.self.now.decoder.table.now in
    let m = message c.args.self.now.decoder in
    let f = c.args.frame in
    let old = at_of c.args.state.now in
    let new = at_of c.pass_or_take_row.new.state in
    let so_far = c.loop-turn.invariant.steps in
    let rises = one_more _ _ _ c.in_ok-turn.ensures.spends in
    let read = turn_on t m f c.loop-turn.rest old (at_of c.loop-turn.state) new c.args.state.now.steps c.loop-turn.state.steps c.pass_or_take_row.new.state.steps c.in_ok-turn.turn c.loop-turn.invariant.turns so_far (omega (arith, rises))
    c.in_ok-turn.ensures.ok in
    let turn : c.in_ok-turn.turn ≡ record { below = Some c.in-Some-below.below; rest = Some c.in-Some.after } = λ i. record { below = c.in-Some-below.is i; rest = c.in-Some.is i } in
    let both = subst (λ (x : Turn). Turns t m f old new (c.pass_or_take_row.new.state.steps - c.args.state.now.steps) x) turn read in
    let p = both.moves c.requires.ready.0 c.requires.ready.1 in
    (p.ahead, p.below_clear)

pub read_next_leaves-requires-clause-budget : goal.read_next_leaves-requires-clause-budget
read_next_leaves-requires-clause-budget c =
    let t = c.args.self.now.decoder.table.now in
    let m = message c.args.self.now.decoder in
    let f = c.args.frame in
    let old = at_of c.args.state.now in
    let new = at_of c.pass_or_take_row.new.state in
    let so_far = c.loop-turn.invariant.steps in
    let rises = one_more _ _ _ c.in_ok-turn.ensures.spends in
    let read = turn_on t m f c.loop-turn.rest old (at_of c.loop-turn.state) new c.args.state.now.steps c.loop-turn.state.steps c.pass_or_take_row.new.state.steps c.in_ok-turn.turn c.loop-turn.invariant.turns so_far (omega (arith, rises))
    c.in_ok-turn.ensures.ok in
    let turn : c.in_ok-turn.turn ≡ record { below = Some c.in-Some-below.below; rest = Some c.in-Some.after } = λ i. record { below = c.in-Some-below.is i; rest = c.in-Some.is i } in
    let both = subst (λ (x : Turn). Turns t m f old new (c.pass_or_take_row.new.state.steps - c.args.state.now.steps) x) turn read in
    let less = both.less in
    omega (arith, less, so_far, rises, c.requires.budget)

pub returns-in_err-inner-clause-cost : goal.returns-in_err-inner-clause-cost
returns-in_err-inner-clause-cost c =
    let t = c.args.self.now.decoder.table.now in
    let m = message c.args.self.now.decoder in
    let f = c.args.frame in
    let old = at_of c.args.state.now in
    let new = at_of c.pass_or_take_row.new.state in
    let so_far = c.loop-turn.invariant.steps in
    let rises = one_more _ _ _ c.in_ok-turn.ensures.spends in
    let read = turn_on t m f c.loop-turn.rest old (at_of c.loop-turn.state) new c.args.state.now.steps c.loop-turn.state.steps c.pass_or_take_row.new.state.steps c.in_ok-turn.turn c.loop-turn.invariant.turns so_far (omega (arith, rises))
    c.in_ok-turn.ensures.ok in
    let turn : c.in_ok-turn.turn ≡ record { below = Some c.in-Some-below.below; rest = Some c.in-Some.after } = λ i. record { below = c.in-Some-below.is i; rest = c.in-Some.is i } in
    let both = subst (λ (x : Turn). Turns t m f old new (c.pass_or_take_row.new.state.steps - c.args.state.now.steps) x) turn read in
    let less = both.less in
    omega (arith, less, so_far, rises, c.in_err-inner.ensures.cost)

pub returns-in_err-inner-clause-fault_is_true : goal.returns-in_err-inner-clause-fault_is_true
returns-in_err-inner-clause-fault_is_true c =
    let t = c.args.self.now.decoder.table.now in
    let m = message c.args.self.now.decoder in
    let f = c.args.frame in
    let old = at_of c.args.state.now in
    let new = at_of c.pass_or_take_row.new.state in
    let so_far = c.loop-turn.invariant.steps in
    let rises = one_more _ _ _ c.in_ok-turn.ensures.spends in
    let read = turn_on t m f c.loop-turn.rest old (at_of c.loop-turn.state) new c.args.state.now.steps c.loop-turn.state.steps c.pass_or_take_row.new.state.steps c.in_ok-turn.turn c.loop-turn.invariant.turns so_far (omega (arith, rises))
    c.in_ok-turn.ensures.ok in
    let turn : c.in_ok-turn.turn ≡ record { below = Some c.in-Some-below.below; rest = Some c.in-Some.after } = λ i. record { below = c.in-Some-below.is i; rest = c.in-Some.is i } in
    let both = subst (λ (x : Turn). Turns t m f old new (c.pass_or_take_row.new.state.steps - c.args.state.now.steps) x) turn read in
    passed_on c.from_residual-in_err-inner.result c.in_err-inner.field-0.0 _ c.from_residual-in_err-inner.ensures.1
    (below_breaks t m f old new (c.pass_or_take_row.new.state.steps - c.args.state.now.steps) c.in-Some-below.below c.in-Some.after both _ c.in_err-inner.ensures.fault_is_true)

pub returns-then-leaf_is_next-2-clause-ok : goal.returns-then-leaf_is_next-2-clause-ok
returns-then-leaf_is_next-2-clause-ok c =
    let t = c.args.self.now.decoder.table.now in
    let m = message c.args.self.now.decoder in
    let f = c.args.frame in
    let old = at_of c.args.state.now in
    let new = at_of c.pass_or_take_row.new.state in
    let so_far = c.loop-turn.invariant.steps in
    let rises = one_more _ _ _ c.in_ok-turn.ensures.spends in
    let read = turn_on t m f c.loop-turn.rest old (at_of c.loop-turn.state) new c.args.state.now.steps c.loop-turn.state.steps c.pass_or_take_row.new.state.steps c.in_ok-turn.turn c.loop-turn.invariant.turns so_far (omega (arith, rises))
    c.in_ok-turn.ensures.ok in
    let turn : c.in_ok-turn.turn ≡ record { below = Some c.in-Some-below.below; rest = Some c.in-Some.after } = λ i. record { below = c.in-Some-below.is i; rest = c.in-Some.is i } in
    let both = subst (λ (x : Turn). Turns t m f old new (c.pass_or_take_row.new.state.steps - c.args.state.now.steps) x) turn read in
    let on = c.in_ok-inner.ensures.grows in
    let last = at_of c.read_next_leaves.new.state in
    let two = subst (λ (o : Option Frame). Turns t m c.in-Some-below.below new last (c.read_next_leaves.new.state.steps - c.pass_or_take_row.new.state.steps) (left_over o)) c.in_default-2.is c.in_ok-inner.ensures.ok in
    let over = turns_over t m f old new (c.pass_or_take_row.new.state.steps - c.args.state.now.steps) c.in-Some-below.below c.in-Some.after both last _ (c.read_next_leaves.new.state.steps - c.args.state.now.steps) (omega (arith, so_far, rises, on)) two in
    over

pub returns-then-leaf_is_next-2-clause-rises : goal.returns-then-leaf_is_next-2-clause-rises
returns-then-leaf_is_next-2-clause-rises c =
    let t = c.args.self.now.decoder.table.now in
    let m = message c.args.self.now.decoder in
    let f = c.args.frame in
    let old = at_of c.args.state.now in
    let new = at_of c.pass_or_take_row.new.state in
    let so_far = c.loop-turn.invariant.steps in
    let rises = one_more _ _ _ c.in_ok-turn.ensures.spends in
    let read = turn_on t m f c.loop-turn.rest old (at_of c.loop-turn.state) new c.args.state.now.steps c.loop-turn.state.steps c.pass_or_take_row.new.state.steps c.in_ok-turn.turn c.loop-turn.invariant.turns so_far (omega (arith, rises))
    c.in_ok-turn.ensures.ok in
    let turn : c.in_ok-turn.turn ≡ record { below = Some c.in-Some-below.below; rest = Some c.in-Some.after } = λ i. record { below = c.in-Some-below.is i; rest = c.in-Some.is i } in
    let both = subst (λ (x : Turn). Turns t m f old new (c.pass_or_take_row.new.state.steps - c.args.state.now.steps) x) turn read in
    let on = c.in_ok-inner.ensures.grows in
    let last = at_of c.read_next_leaves.new.state in
    let two = subst (λ (o : Option Frame). Turns t m c.in-Some-below.below new last (c.read_next_leaves.new.state.steps - c.pass_or_take_row.new.state.steps) (left_over o)) c.in_default-2.is c.in_ok-inner.ensures.ok in
    let over = turns_over t m f old new (c.pass_or_take_row.new.state.steps - c.args.state.now.steps) c.in-Some-below.below c.in-Some.after both last _ (c.read_next_leaves.new.state.steps - c.args.state.now.steps) (omega (arith, so_far, rises, on)) two in
    let less = over.less in
    omega (arith, so_far, rises, on)

pub returns-then-leaf_is_next-2-clause-cost : goal.returns-then-leaf_is_next-2-clause-cost
returns-then-leaf_is_next-2-clause-cost c =
    let t = c.args.self.now.decoder.table.now in
    let m = message c.args.self.now.decoder in
    let f = c.args.frame in
    let old = at_of c.args.state.now in
    let new = at_of c.pass_or_take_row.new.state in
    let so_far = c.loop-turn.invariant.steps in
    let rises = one_more _ _ _ c.in_ok-turn.ensures.spends in
    let read = turn_on t m f c.loop-turn.rest old (at_of c.loop-turn.state) new c.args.state.now.steps c.loop-turn.state.steps c.pass_or_take_row.new.state.steps c.in_ok-turn.turn c.loop-turn.invariant.turns so_far (omega (arith, rises))
    c.in_ok-turn.ensures.ok in
    let turn : c.in_ok-turn.turn ≡ record { below = Some c.in-Some-below.below; rest = Some c.in-Some.after } = λ i. record { below = c.in-Some-below.is i; rest = c.in-Some.is i } in
    let both = subst (λ (x : Turn). Turns t m f old new (c.pass_or_take_row.new.state.steps - c.args.state.now.steps) x) turn read in
    let on = c.in_ok-inner.ensures.grows in
    let last = at_of c.read_next_leaves.new.state in
    let two = subst (λ (o : Option Frame). Turns t m c.in-Some-below.below new last (c.read_next_leaves.new.state.steps - c.pass_or_take_row.new.state.steps) (left_over o)) c.in_default-2.is c.in_ok-inner.ensures.ok in
    let over = turns_over t m f old new (c.pass_or_take_row.new.state.steps - c.args.state.now.steps) c.in-Some-below.below c.in-Some.after both last _ (c.read_next_leaves.new.state.steps - c.args.state.now.steps) (omega (arith, so_far, rises, on)) two in
    let less = over.less in
    omega (arith, less, so_far, rises, on)

pub loop-turn-preserved : goal.loop-turn-preserved
loop-turn-preserved c =
    let t = c.args.self.now.decoder.table.now in
    let m = message c.args.self.now.decoder in
    let f = c.args.frame in
    let old = at_of c.args.state.now in
    let new = at_of c.pass_or_take_row.new.state in
    let so_far = c.loop-turn.invariant.steps in
    let rises = one_more _ _ _ c.in_ok-turn.ensures.spends in
    let read = turn_on t m f c.loop-turn.rest old (at_of c.loop-turn.state) new c.args.state.now.steps c.loop-turn.state.steps c.pass_or_take_row.new.state.steps c.in_ok-turn.turn c.loop-turn.invariant.turns so_far (omega (arith, rises))
    c.in_ok-turn.ensures.ok in
    let turn : c.in_ok-turn.turn ≡ record { below = Some c.in-Some-below.below; rest = Some c.in-Some.after } = λ i. record { below = c.in-Some-below.is i; rest = c.in-Some.is i } in
    let both = subst (λ (x : Turn). Turns t m f old new (c.pass_or_take_row.new.state.steps - c.args.state.now.steps) x) turn read in
    let on = c.in_ok-inner.ensures.grows in
    let last = at_of c.read_next_leaves.new.state in
    let two = subst (λ (o : Option Frame). Turns t m c.in-Some-below.below new last (c.read_next_leaves.new.state.steps - c.pass_or_take_row.new.state.steps) (left_over o)) c.in_default-2.is c.in_ok-inner.ensures.ok in
    let over = turns_over t m f old new (c.pass_or_take_row.new.state.steps - c.args.state.now.steps) c.in-Some-below.below c.in-Some.after both last _ (c.read_next_leaves.new.state.steps - c.args.state.now.steps) (omega (arith, so_far, rises, on)) two in
    record { holds = c.read_next_leaves.ensures.holds; left = c.in-Rows.is; turns = over; steps = omega (arith, so_far, rises, on) }

pub returns-in-loop-turn-clause-ok : goal.returns-in-loop-turn-clause-ok
returns-in-loop-turn-clause-ok c =
    let t = c.args.self.now.decoder.table.now in
    let m = message c.args.self.now.decoder in
    let f = c.args.frame in
    let old = at_of c.args.state.now in
    let new = at_of c.pass_or_take_row.new.state in
    let so_far = c.loop-turn.invariant.steps in
    let rises = one_more _ _ _ c.in_ok-turn.ensures.spends in
    let read = turn_on t m f c.loop-turn.rest old (at_of c.loop-turn.state) new c.args.state.now.steps c.loop-turn.state.steps c.pass_or_take_row.new.state.steps c.in_ok-turn.turn c.loop-turn.invariant.turns so_far (omega (arith, rises))
    c.in_ok-turn.ensures.ok in
    let turn : c.in_ok-turn.turn ≡ record { below = Some c.in-Some-below.below; rest = Some c.in-Some.after } = λ i. record { below = c.in-Some-below.is i; rest = c.in-Some.is i } in
    let both = subst (λ (x : Turn). Turns t m f old new (c.pass_or_take_row.new.state.steps - c.args.state.now.steps) x) turn read in
    let on = c.in_ok-inner.ensures.grows in
    let last = at_of c.read_next_leaves.new.state in
    let two = subst (λ (o : Option Frame). Turns t m c.in-Some-below.below new last (c.read_next_leaves.new.state.steps - c.pass_or_take_row.new.state.steps) (left_over o)) c.in-Some-2.is c.in_ok-inner.ensures.ok in
    let inner = turns_below t m f old new (c.pass_or_take_row.new.state.steps - c.args.state.now.steps) c.in-Some-below.below c.in-Some.after both last _ (c.read_next_leaves.new.state.steps - c.args.state.now.steps) (Some c.in-Some-2.inner)
    (omega (arith, so_far, rises, on)) two in
    inner

pub returns-in-loop-turn-clause-rises : goal.returns-in-loop-turn-clause-rises
returns-in-loop-turn-clause-rises c =
    let t = c.args.self.now.decoder.table.now in
    let m = message c.args.self.now.decoder in
    let f = c.args.frame in
    let old = at_of c.args.state.now in
    let new = at_of c.pass_or_take_row.new.state in
    let so_far = c.loop-turn.invariant.steps in
    let rises = one_more _ _ _ c.in_ok-turn.ensures.spends in
    let read = turn_on t m f c.loop-turn.rest old (at_of c.loop-turn.state) new c.args.state.now.steps c.loop-turn.state.steps c.pass_or_take_row.new.state.steps c.in_ok-turn.turn c.loop-turn.invariant.turns so_far (omega (arith, rises))
    c.in_ok-turn.ensures.ok in
    let turn : c.in_ok-turn.turn ≡ record { below = Some c.in-Some-below.below; rest = Some c.in-Some.after } = λ i. record { below = c.in-Some-below.is i; rest = c.in-Some.is i } in
    let both = subst (λ (x : Turn). Turns t m f old new (c.pass_or_take_row.new.state.steps - c.args.state.now.steps) x) turn read in
    let on = c.in_ok-inner.ensures.grows in
    let last = at_of c.read_next_leaves.new.state in
    let two = subst (λ (o : Option Frame). Turns t m c.in-Some-below.below new last (c.read_next_leaves.new.state.steps - c.pass_or_take_row.new.state.steps) (left_over o)) c.in-Some-2.is c.in_ok-inner.ensures.ok in
    let inner = turns_below t m f old new (c.pass_or_take_row.new.state.steps - c.args.state.now.steps) c.in-Some-below.below c.in-Some.after both last _ (c.read_next_leaves.new.state.steps - c.args.state.now.steps) (Some c.in-Some-2.inner)
    (omega (arith, so_far, rises, on)) two in
    let less = inner.less in
    omega (arith, so_far, rises, on)

pub returns-in-loop-turn-clause-cost : goal.returns-in-loop-turn-clause-cost
returns-in-loop-turn-clause-cost c =
    let t = c.args.self.now.decoder.table.now in
    let m = message c.args.self.now.decoder in
    let f = c.args.frame in
    let old = at_of c.args.state.now in
    let new = at_of c.pass_or_take_row.new.state in
    let so_far = c.loop-turn.invariant.steps in
    let rises = one_more _ _ _ c.in_ok-turn.ensures.spends in
    let read = turn_on t m f c.loop-turn.rest old (at_of c.loop-turn.state) new c.args.state.now.steps c.loop-turn.state.steps c.pass_or_take_row.new.state.steps c.in_ok-turn.turn c.loop-turn.invariant.turns so_far (omega (arith, rises))
    c.in_ok-turn.ensures.ok in
    let turn : c.in_ok-turn.turn ≡ record { below = Some c.in-Some-below.below; rest = Some c.in-Some.after } = λ i. record { below = c.in-Some-below.is i; rest = c.in-Some.is i } in
    let both = subst (λ (x : Turn). Turns t m f old new (c.pass_or_take_row.new.state.steps - c.args.state.now.steps) x) turn read in
    let on = c.in_ok-inner.ensures.grows in
    let last = at_of c.read_next_leaves.new.state in
    let two = subst (λ (o : Option Frame). Turns t m c.in-Some-below.below new last (c.read_next_leaves.new.state.steps - c.pass_or_take_row.new.state.steps) (left_over o)) c.in-Some-2.is c.in_ok-inner.ensures.ok in
    let inner = turns_below t m f old new (c.pass_or_take_row.new.state.steps - c.args.state.now.steps) c.in-Some-below.below c.in-Some.after both last _ (c.read_next_leaves.new.state.steps - c.args.state.now.steps) (Some c.in-Some-2.inner)
    (omega (arith, so_far, rises, on)) two in
    let less = inner.less in
    omega (arith, less, so_far, rises, on)
