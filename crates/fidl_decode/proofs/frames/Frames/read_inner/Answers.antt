use Rattle.std.proofs.Common.{◌≡◌, ◌-◌, Option, Some, subst, arith}
use Rattle.std.specs.Prelude.{Result, Ok, Err, OnOk}
use Rattle.std.proofs.lemmas.Result.{IfOk-weaker, IfErr-weaker}
use Rattle.fidl_decode_model.specs.declared.frame.Frame.{Frame}
use Rattle.fidl_decode_model.specs.declared.frame.Turn.{Turn}
use Rattle.fidl_decode_model.specs.Machine.{Turns, at_of}
use Rattle.fidl_decode_values.specs.Reading.{message}
use Rattle.fidl_decode_values.proofs.Fitting.{one_more}
use Rattle.fidl_decode_columns.proofs.Leaves.{left_over, turns_stay, turns_below, turns_over, turns_break}
use Rattle.fidl_decode.proofs.Onward.{turn_on}
use Rattle.fidl_decode.proofs.frames.Frames.read_inner.Goals as goal

always : {T E Q : Type 0} (r : Result T E) → Q → OnOk r Q
always (Ok x) q = q
always (Err e) q = tt

-- nothing is read of a frame that is no content, or whose value is read
pub returns-in_default : goal.returns-in_default
returns-in_default c = record {
  holds = c.requires.holds;
  ok = turns_stay c.args.self.now.decoder.table.now (message c.args.self.now.decoder) c.args.frame (at_of c.args.state.now) c.requires.frame c.requires.state _ (omega arith);
  grows = omega arith;
  cost = omega arith;
  fault_is_true = tt;
}

pub returns-then-count-ne1-clause-ok : goal.returns-then-count-ne1-clause-ok
returns-then-count-ne1-clause-ok c =
    turns_stay c.args.self.now.decoder.table.now (message c.args.self.now.decoder) c.args.frame (at_of c.args.state.now) c.requires.frame c.requires.state _ (omega arith)

pub end_content-requires-clause-frame : goal.end_content-requires-clause-frame
end_content-requires-clause-frame c =
    let t = c.args.self.now.decoder.table.now in
    let m = message c.args.self.now.decoder in
    let f = c.args.frame in
    let old = at_of c.args.state.now in
    let mid = at_of c.begin_content.new.state in
    let rises = one_more _ _ _ c.in_ok-turn.ensures.spends in
    let turn : c.in_ok-turn.turn ≡ left_over (Some c.in-Some.rest) = λ i. record { below = c.in_default-below.is i; rest = c.in-Some.is i } in
    let alone = subst (λ (x : Turn). Turns t m f old mid (c.begin_content.new.state.steps - c.args.state.now.steps) x) turn c.in_ok-turn.ensures.ok in
    alone.rest_fine.0

pub end_content-requires-clause-ready : goal.end_content-requires-clause-ready
end_content-requires-clause-ready c =
    let t = c.args.self.now.decoder.table.now in
    let m = message c.args.self.now.decoder in
    let f = c.args.frame in
    let old = at_of c.args.state.now in
    let mid = at_of c.begin_content.new.state in
    let rises = one_more _ _ _ c.in_ok-turn.ensures.spends in
    let turn : c.in_ok-turn.turn ≡ left_over (Some c.in-Some.rest) = λ i. record { below = c.in_default-below.is i; rest = c.in-Some.is i } in
    let alone = subst (λ (x : Turn). Turns t m f old mid (c.begin_content.new.state.steps - c.args.state.now.steps) x) turn c.in_ok-turn.ensures.ok in
    let p = alone.moves c.requires.ready.0 c.requires.ready.1 in
    (p.ahead, p.rest_clear)

pub returns-in_default-below-clause-ok : goal.returns-in_default-below-clause-ok
returns-in_default-below-clause-ok c =
    let t = c.args.self.now.decoder.table.now in
    let m = message c.args.self.now.decoder in
    let f = c.args.frame in
    let old = at_of c.args.state.now in
    let mid = at_of c.begin_content.new.state in
    let rises = one_more _ _ _ c.in_ok-turn.ensures.spends in
    let turn : c.in_ok-turn.turn ≡ left_over (Some c.in-Some.rest) = λ i. record { below = c.in_default-below.is i; rest = c.in-Some.is i } in
    let alone = subst (λ (x : Turn). Turns t m f old mid (c.begin_content.new.state.steps - c.args.state.now.steps) x) turn c.in_ok-turn.ensures.ok in
    let more = one_more _ _ _ c.end_content.ensures.spends in
    IfOk-weaker c.end_content.result _ _
    (λ x two. turn_on t m f c.in-Some.rest old mid (at_of c.end_content.new.state) c.args.state.now.steps c.begin_content.new.state.steps c.end_content.new.state.steps x alone (omega (arith, rises)) (omega (arith, more)) two)
    c.end_content.ensures.ok

pub returns-in_default-below-clause-grows : goal.returns-in_default-below-clause-grows
returns-in_default-below-clause-grows c =
    let rises = one_more _ _ _ c.in_ok-turn.ensures.spends in
    let more = one_more _ _ _ c.end_content.ensures.spends in
    always c.end_content.result (omega (arith, rises, more))

pub returns-in_default-below-clause-fault_is_true : goal.returns-in_default-below-clause-fault_is_true
returns-in_default-below-clause-fault_is_true c =
    let t = c.args.self.now.decoder.table.now in
    let m = message c.args.self.now.decoder in
    let f = c.args.frame in
    let old = at_of c.args.state.now in
    let mid = at_of c.begin_content.new.state in
    let rises = one_more _ _ _ c.in_ok-turn.ensures.spends in
    let turn : c.in_ok-turn.turn ≡ left_over (Some c.in-Some.rest) = λ i. record { below = c.in_default-below.is i; rest = c.in-Some.is i } in
    let alone = subst (λ (x : Turn). Turns t m f old mid (c.begin_content.new.state.steps - c.args.state.now.steps) x) turn c.in_ok-turn.ensures.ok in
    IfErr-weaker c.end_content.result _ _ (λ fault b. turns_break t m f old mid (c.begin_content.new.state.steps - c.args.state.now.steps) c.in-Some.rest alone fault b) c.end_content.ensures.fault_is_true

pub read_next_leaves-requires-clause-frame : goal.read_next_leaves-requires-clause-frame
read_next_leaves-requires-clause-frame c =
    let t = c.args.self.now.decoder.table.now in
    let m = message c.args.self.now.decoder in
    let f = c.args.frame in
    let old = at_of c.args.state.now in
    let mid = at_of c.begin_content.new.state in
    let rises = one_more _ _ _ c.in_ok-turn.ensures.spends in
    let turn : c.in_ok-turn.turn ≡ record { below = Some c.in-Some-below.below; rest = Some c.in-Some.rest } = λ i. record { below = c.in-Some-below.is i; rest = c.in-Some.is i } in
    let both = subst (λ (x : Turn). Turns t m f old mid (c.begin_content.new.state.steps - c.args.state.now.steps) x) turn c.in_ok-turn.ensures.ok in
    both.below_fine.0

pub read_next_leaves-requires-clause-ready : goal.read_next_leaves-requires-clause-ready
read_next_leaves-requires-clause-ready c =
    let t = c.args.self.now.decoder.table.now in
    let m = message c.args.self.now.decoder in
    let f = c.args.frame in
    let old = at_of c.args.state.now in
    let mid = at_of c.begin_content.new.state in
    let rises = one_more _ _ _ c.in_ok-turn.ensures.spends in
    let turn : c.in_ok-turn.turn ≡ record { below = Some c.in-Some-below.below; rest = Some c.in-Some.rest } = λ i. record { below = c.in-Some-below.is i; rest = c.in-Some.is i } in
    let both = subst (λ (x : Turn). Turns t m f old mid (c.begin_content.new.state.steps - c.args.state.now.steps) x) turn c.in_ok-turn.ensures.ok in
    let p = both.moves c.requires.ready.0 c.requires.ready.1 in
    (p.ahead, p.below_clear)

pub end_content-requires-in_default-2-clause-frame : goal.end_content-requires-in_default-2-clause-frame
end_content-requires-in_default-2-clause-frame c =
    let t = c.args.self.now.decoder.table.now in
    let m = message c.args.self.now.decoder in
    let f = c.args.frame in
    let old = at_of c.args.state.now in
    let mid = at_of c.begin_content.new.state in
    let rises = one_more _ _ _ c.in_ok-turn.ensures.spends in
    let turn : c.in_ok-turn.turn ≡ record { below = Some c.in-Some-below.below; rest = Some c.in-Some.rest } = λ i. record { below = c.in-Some-below.is i; rest = c.in-Some.is i } in
    let both = subst (λ (x : Turn). Turns t m f old mid (c.begin_content.new.state.steps - c.args.state.now.steps) x) turn c.in_ok-turn.ensures.ok in
    let on = c.in_ok-inner.ensures.grows in
    let two = subst (λ (o : Option Frame). Turns t m c.in-Some-below.below mid (at_of c.read_next_leaves.new.state) (c.read_next_leaves.new.state.steps - c.begin_content.new.state.steps) (left_over o)) c.in_default-2.is c.in_ok-inner.ensures.ok in
    let read = turns_over t m f old mid (c.begin_content.new.state.steps - c.args.state.now.steps) c.in-Some-below.below c.in-Some.rest both (at_of c.read_next_leaves.new.state) _ (c.read_next_leaves.new.state.steps - c.args.state.now.steps) (omega (arith, rises, on)) two in
    read.rest_fine.0

pub end_content-requires-in_default-2-clause-ready : goal.end_content-requires-in_default-2-clause-ready
end_content-requires-in_default-2-clause-ready c =
    let t = c.args.self.now.decoder.table.now in
    let m = message c.args.self.now.decoder in
    let f = c.args.frame in
    let old = at_of c.args.state.now in
    let mid = at_of c.begin_content.new.state in
    let rises = one_more _ _ _ c.in_ok-turn.ensures.spends in
    let turn : c.in_ok-turn.turn ≡ record { below = Some c.in-Some-below.below; rest = Some c.in-Some.rest } = λ i. record { below = c.in-Some-below.is i; rest = c.in-Some.is i } in
    let both = subst (λ (x : Turn). Turns t m f old mid (c.begin_content.new.state.steps - c.args.state.now.steps) x) turn c.in_ok-turn.ensures.ok in
    let on = c.in_ok-inner.ensures.grows in
    let two = subst (λ (o : Option Frame). Turns t m c.in-Some-below.below mid (at_of c.read_next_leaves.new.state) (c.read_next_leaves.new.state.steps - c.begin_content.new.state.steps) (left_over o)) c.in_default-2.is c.in_ok-inner.ensures.ok in
    let read = turns_over t m f old mid (c.begin_content.new.state.steps - c.args.state.now.steps) c.in-Some-below.below c.in-Some.rest both (at_of c.read_next_leaves.new.state) _ (c.read_next_leaves.new.state.steps - c.args.state.now.steps) (omega (arith, rises, on)) two in
    let p = read.moves c.requires.ready.0 c.requires.ready.1 in
    (p.ahead, p.rest_clear)

pub returns-in_default-2-clause-ok : goal.returns-in_default-2-clause-ok
returns-in_default-2-clause-ok c =
    let t = c.args.self.now.decoder.table.now in
    let m = message c.args.self.now.decoder in
    let f = c.args.frame in
    let old = at_of c.args.state.now in
    let mid = at_of c.begin_content.new.state in
    let rises = one_more _ _ _ c.in_ok-turn.ensures.spends in
    let turn : c.in_ok-turn.turn ≡ record { below = Some c.in-Some-below.below; rest = Some c.in-Some.rest } = λ i. record { below = c.in-Some-below.is i; rest = c.in-Some.is i } in
    let both = subst (λ (x : Turn). Turns t m f old mid (c.begin_content.new.state.steps - c.args.state.now.steps) x) turn c.in_ok-turn.ensures.ok in
    let on = c.in_ok-inner.ensures.grows in
    let two = subst (λ (o : Option Frame). Turns t m c.in-Some-below.below mid (at_of c.read_next_leaves.new.state) (c.read_next_leaves.new.state.steps - c.begin_content.new.state.steps) (left_over o)) c.in_default-2.is c.in_ok-inner.ensures.ok in
    let read = turns_over t m f old mid (c.begin_content.new.state.steps - c.args.state.now.steps) c.in-Some-below.below c.in-Some.rest both (at_of c.read_next_leaves.new.state) _ (c.read_next_leaves.new.state.steps - c.args.state.now.steps) (omega (arith, rises, on)) two in
    let more = one_more _ _ _ c.end_content-in_default-2.ensures.spends in
    IfOk-weaker c.end_content-in_default-2.result _ _
    (λ x two. turn_on t m f c.in-Some.rest old (at_of c.read_next_leaves.new.state) (at_of c.end_content-in_default-2.new.state) c.args.state.now.steps c.read_next_leaves.new.state.steps c.end_content-in_default-2.new.state.steps x
    read (omega (arith, rises, on)) (omega (arith, more)) two)
    c.end_content-in_default-2.ensures.ok

pub returns-in_default-2-clause-grows : goal.returns-in_default-2-clause-grows
returns-in_default-2-clause-grows c =
    let rises = one_more _ _ _ c.in_ok-turn.ensures.spends in
    let on = c.in_ok-inner.ensures.grows in
    let more = one_more _ _ _ c.end_content-in_default-2.ensures.spends in
    always c.end_content-in_default-2.result (omega (arith, rises, on, more))

pub returns-in_default-2-clause-fault_is_true : goal.returns-in_default-2-clause-fault_is_true
returns-in_default-2-clause-fault_is_true c =
    let t = c.args.self.now.decoder.table.now in
    let m = message c.args.self.now.decoder in
    let f = c.args.frame in
    let old = at_of c.args.state.now in
    let mid = at_of c.begin_content.new.state in
    let rises = one_more _ _ _ c.in_ok-turn.ensures.spends in
    let turn : c.in_ok-turn.turn ≡ record { below = Some c.in-Some-below.below; rest = Some c.in-Some.rest } = λ i. record { below = c.in-Some-below.is i; rest = c.in-Some.is i } in
    let both = subst (λ (x : Turn). Turns t m f old mid (c.begin_content.new.state.steps - c.args.state.now.steps) x) turn c.in_ok-turn.ensures.ok in
    let on = c.in_ok-inner.ensures.grows in
    let two = subst (λ (o : Option Frame). Turns t m c.in-Some-below.below mid (at_of c.read_next_leaves.new.state) (c.read_next_leaves.new.state.steps - c.begin_content.new.state.steps) (left_over o)) c.in_default-2.is c.in_ok-inner.ensures.ok in
    let read = turns_over t m f old mid (c.begin_content.new.state.steps - c.args.state.now.steps) c.in-Some-below.below c.in-Some.rest both (at_of c.read_next_leaves.new.state) _ (c.read_next_leaves.new.state.steps - c.args.state.now.steps) (omega (arith, rises, on)) two in
    IfErr-weaker c.end_content-in_default-2.result _ _
    (λ fault b. turns_break t m f old (at_of c.read_next_leaves.new.state) (c.read_next_leaves.new.state.steps - c.args.state.now.steps) c.in-Some.rest read fault b) c.end_content-in_default-2.ensures.fault_is_true

pub returns-clause-ok : goal.returns-clause-ok
returns-clause-ok c =
    let t = c.args.self.now.decoder.table.now in
    let m = message c.args.self.now.decoder in
    let f = c.args.frame in
    let old = at_of c.args.state.now in
    let mid = at_of c.begin_content.new.state in
    let rises = one_more _ _ _ c.in_ok-turn.ensures.spends in
    let turn : c.in_ok-turn.turn ≡ record { below = Some c.in-Some-below.below; rest = Some c.in-Some.rest } = λ i. record { below = c.in-Some-below.is i; rest = c.in-Some.is i } in
    let both = subst (λ (x : Turn). Turns t m f old mid (c.begin_content.new.state.steps - c.args.state.now.steps) x) turn c.in_ok-turn.ensures.ok in
    let on = c.in_ok-inner.ensures.grows in
    let two = subst (λ (o : Option Frame). Turns t m c.in-Some-below.below mid (at_of c.read_next_leaves.new.state) (c.read_next_leaves.new.state.steps - c.begin_content.new.state.steps) (left_over o)) c.in-Some-2.is c.in_ok-inner.ensures.ok in
    turns_below t m f old mid (c.begin_content.new.state.steps - c.args.state.now.steps) c.in-Some-below.below c.in-Some.rest both (at_of c.read_next_leaves.new.state) _ _ (Some c.in-Some-2.inner) (omega (arith, rises, on)) two
