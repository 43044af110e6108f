use Rattle.fidl_decode_values.specs.Reading.{message}
use Rattle.fidl_decode_values.proofs.Unchanged.{no_ok}
use Rattle.std.proofs.Common.{◌≡◌, ◌+◌, ◌-◌, refl, sym, ap, subst, arith}
use Rattle.std.specs.Prelude.{Option, Some, None}
use Rattle.fidl_decode_model.specs.declared.frame.Frame.{Frame}
use Rattle.fidl_decode_model.specs.declared.frame.Turn.{Turn}
use Rattle.fidl_decode_model.specs.declared.frame.Remaining.TheVariants.{Envelopes}
use Rattle.fidl_decode_model.specs.Machine.{Turns, behind_envelopes, at_of}
use Rattle.fidl_decode_model.proofs.Turning.{passed_on}
use Rattle.fidl_decode_values.proofs.EnvelopeTurns.{envelopes_over}
use Rattle.fidl_decode_columns.proofs.Leaves.{left_over, same_frame, turns_start, turns_then, turns_break, turns_over, below_breaks}
use Rattle.fidl_decode.proofs.frames.Frames.read_envelopes.Goals as goal

pub loop-many-init : goal.loop-many-init
loop-many-init c =
    let t = c.args.self.now.decoder.table.now in
    let m = message c.args.self.now.decoder in
    let f = c.args.frame in
    let old = at_of c.args.state.now in
    let none : 0 ≡ c.args.state.now.steps - c.args.state.now.steps = omega arith in
    let start = behind_envelopes f c.args.entry c.args.read c.args.count f.done in
    record { holds = c.requires.holds; turns = subst (λ n. Turns t m f old old n (left_over (Some start))) none (turns_start t m f old c.requires.frame c.requires.state start (same_frame f (Envelopes c.args.entry c.args.read c.args.count) c.requires.left)); steps = omega arith }

pub take_envelope-requires-clause-left : goal.take_envelope-requires-clause-left
take_envelope-requires-clause-left c =
    let same = c.envelopes_from-now.ensures in
    ap (λ (x : Frame). x.left) same

pub take_envelope-requires-clause-frame : goal.take_envelope-requires-clause-frame
take_envelope-requires-clause-frame c =
    let t = c.args.self.now.decoder.table.now in
    let m = message c.args.self.now.decoder in
    let f = c.args.frame in
    let old = at_of c.args.state.now in
    let now = at_of c.loop-many.state in
    let a = c.loop-many.state.steps - c.args.state.now.steps in
    let same = c.envelopes_from-now.ensures in
    let so_far = subst (λ (x : Frame). Turns t m f old now a (left_over (Some x))) (sym same) c.loop-many.invariant.turns in
    so_far.rest_fine.0

pub take_envelope-requires-clause-budget : goal.take_envelope-requires-clause-budget
take_envelope-requires-clause-budget c =
    let t = c.args.self.now.decoder.table.now in
    let m = message c.args.self.now.decoder in
    let f = c.args.frame in
    let old = at_of c.args.state.now in
    let now = at_of c.loop-many.state in
    let a = c.loop-many.state.steps - c.args.state.now.steps in
    let begun = c.loop-many.invariant.steps in
    let same = c.envelopes_from-now.ensures in
    let so_far = subst (λ (x : Frame). Turns t m f old now a (left_over (Some x))) (sym same) c.loop-many.invariant.turns in
    let less = so_far.less in
    omega (arith, less, begun, c.requires.budget)

pub returns-in_err-below-clause-cost : goal.returns-in_err-below-clause-cost
returns-in_err-below-clause-cost c =
    let t = c.args.self.now.decoder.table.now in
    let m = message c.args.self.now.decoder in
    let f = c.args.frame in
    let old = at_of c.args.state.now in
    let now = at_of c.loop-many.state in
    let a = c.loop-many.state.steps - c.args.state.now.steps in
    let begun = c.loop-many.invariant.steps in
    let same = c.envelopes_from-now.ensures in
    let so_far = subst (λ (x : Frame). Turns t m f old now a (left_over (Some x))) (sym same) c.loop-many.invariant.turns in
    let less = so_far.less in
    omega (arith, less, begun, c.in_err-below.ensures.cost)

pub returns-in_err-below-clause-fault_is_true : goal.returns-in_err-below-clause-fault_is_true
returns-in_err-below-clause-fault_is_true c =
    let t = c.args.self.now.decoder.table.now in
    let m = message c.args.self.now.decoder in
    let f = c.args.frame in
    let old = at_of c.args.state.now in
    let now = at_of c.loop-many.state in
    let a = c.loop-many.state.steps - c.args.state.now.steps in
    let rest = c.envelopes_from-now.result in
    let same = c.envelopes_from-now.ensures in
    let so_far = subst (λ (x : Frame). Turns t m f old now a (left_over (Some x))) (sym same) c.loop-many.invariant.turns in
    passed_on c.from_residual.result c.in_err-below.field-0.0 _ c.from_residual.ensures.1 (turns_break t m f old now a rest so_far _ c.in_err-below.ensures.fault_is_true)

pub returns-clause-ok : goal.returns-clause-ok
returns-clause-ok c =
    let t = c.args.self.now.decoder.table.now in
    let m = message c.args.self.now.decoder in
    let f = c.args.frame in
    let old = at_of c.args.state.now in
    let now = at_of c.loop-many.state in
    let a = c.loop-many.state.steps - c.args.state.now.steps in
    let begun = c.loop-many.invariant.steps in
    let none : c.loop-many.many ≡ 0 = omega (arith, c.loop-many-test.false) in
    let g = behind_envelopes f c.args.entry c.loop-many.passed c.loop-many.many c.loop-many.done in
    let over = envelopes_over t c.args.self.now.decoder.fine m (c.args.self.now.decoder.short, c.requires.state.few) g c.args.entry c.loop-many.passed c.loop-many.many now c.loop-many.invariant.turns.rest_fine.0 c.loop-many.invariant.turns.state none 1 refl in
    let run = turns_then t m f old now a g c.loop-many.invariant.turns now 1 (c.loop-many.state.steps + 1 - c.args.state.now.steps) (left_over None) (omega (arith, begun)) over in
    run

pub returns-clause-cost : goal.returns-clause-cost
returns-clause-cost c =
    let t = c.args.self.now.decoder.table.now in
    let m = message c.args.self.now.decoder in
    let f = c.args.frame in
    let old = at_of c.args.state.now in
    let now = at_of c.loop-many.state in
    let a = c.loop-many.state.steps - c.args.state.now.steps in
    let begun = c.loop-many.invariant.steps in
    let none : c.loop-many.many ≡ 0 = omega (arith, c.loop-many-test.false) in
    let g = behind_envelopes f c.args.entry c.loop-many.passed c.loop-many.many c.loop-many.done in
    let over = envelopes_over t c.args.self.now.decoder.fine m (c.args.self.now.decoder.short, c.requires.state.few) g c.args.entry c.loop-many.passed c.loop-many.many now c.loop-many.invariant.turns.rest_fine.0 c.loop-many.invariant.turns.state none 1 refl in
    let run = turns_then t m f old now a g c.loop-many.invariant.turns now 1 (c.loop-many.state.steps + 1 - c.args.state.now.steps) (left_over None) (omega (arith, begun)) over in
    let whole = run.less in
    omega (arith, begun, whole)

pub returns-in_err-below-clause-ok : goal.returns-in_err-below-clause-ok
returns-in_err-below-clause-ok c = no_ok c.from_residual.result c.in_err-below.field-0.0 _ c.from_residual.ensures.1

pub returns-in_err-below-clause-rises : goal.returns-in_err-below-clause-rises
returns-in_err-below-clause-rises c = no_ok c.from_residual.result c.in_err-below.field-0.0 _ c.from_residual.ensures.1

pub returns-clause-fault_is_true : goal.returns-clause-fault_is_true
returns-clause-fault_is_true c = tt

pub envelopes_from-now-requires : goal.envelopes_from-now-requires
envelopes_from-now-requires c =
    let fine = c.loop-many.invariant.turns.rest_fine.0 in
    record { small = omega (arith, fine.slots.0, fine.slots.1, c.requires.frame.room, c.args.self.now.decoder.short) }

pub envelopes_from-requires : goal.envelopes_from-requires
envelopes_from-requires c =
    let fine = c.loop-many.invariant.turns.rest_fine.0 in
    record { small = omega (arith, fine.slots.0, fine.slots.1, c.requires.frame.room, c.args.self.now.decoder.short, c.loop-many-test.true) }

pub loop-many-preserved-in_default : goal.loop-many-preserved-in_default
loop-many-preserved-in_default c =
    let t = c.args.self.now.decoder.table.now in
    let m = message c.args.self.now.decoder in
    let f = c.args.frame in
    let old = at_of c.args.state.now in
    let now = at_of c.loop-many.state in
    let a = c.loop-many.state.steps - c.args.state.now.steps in
    let begun = c.loop-many.invariant.steps in
    let g = behind_envelopes f c.args.entry c.loop-many.passed c.loop-many.many c.loop-many.done in
    let new = at_of c.take_envelope.new.state in
    let spent = c.take_envelope.new.state.steps - c.loop-many.state.steps in
    let all = c.take_envelope.new.state.steps - c.args.state.now.steps in
    let rises = c.in_ok-below.ensures.rises in
    let then = behind_envelopes f c.args.entry (c.loop-many.passed + 1) (c.loop-many.many - 1) (c.loop-many.done + 8) in
    let one = subst (λ (x : Frame). Turns t m x now new spent (record { below = c.in_ok-below.below; rest = Some (behind_envelopes x c.args.entry (c.loop-many.passed + 1) (c.loop-many.many - 1) (x.done + 8)) })) c.envelopes_from-now.ensures c.in_ok-below.ensures.ok in
    let run = turns_then t m f old now a g c.loop-many.invariant.turns new spent all (record { below = c.in_ok-below.below; rest = Some (then) }) (omega (arith, begun, rises)) one in
    record {
      holds = c.take_envelope.ensures.holds;
      turns = subst (λ (o : Option Frame). Turns t m f old new all (record { below = o; rest = Some (then) })) c.in_default.is run;
      steps = omega (arith, begun, rises);
    }

pub read_inner-requires-clause-frame : goal.read_inner-requires-clause-frame
read_inner-requires-clause-frame c =
    let t = c.args.self.now.decoder.table.now in
    let m = message c.args.self.now.decoder in
    let f = c.args.frame in
    let old = at_of c.args.state.now in
    let now = at_of c.loop-many.state in
    let a = c.loop-many.state.steps - c.args.state.now.steps in
    let begun = c.loop-many.invariant.steps in
    let g = behind_envelopes f c.args.entry c.loop-many.passed c.loop-many.many c.loop-many.done in
    let new = at_of c.take_envelope.new.state in
    let spent = c.take_envelope.new.state.steps - c.loop-many.state.steps in
    let all = c.take_envelope.new.state.steps - c.args.state.now.steps in
    let rises = c.in_ok-below.ensures.rises in
    let then = behind_envelopes f c.args.entry (c.loop-many.passed + 1) (c.loop-many.many - 1) (c.loop-many.done + 8) in
    let one = subst (λ (x : Frame). Turns t m x now new spent (record { below = c.in_ok-below.below; rest = Some (behind_envelopes x c.args.entry (c.loop-many.passed + 1) (c.loop-many.many - 1) (x.done + 8)) })) c.envelopes_from-now.ensures c.in_ok-below.ensures.ok in
    let run = turns_then t m f old now a g c.loop-many.invariant.turns new spent all (record { below = c.in_ok-below.below; rest = Some (then) }) (omega (arith, begun, rises)) one in
    let held = subst (λ (o : Option Frame). Turns t m f old new all (record { below = o; rest = Some (then) })) c.in-Some.is run in
    held.below_fine.0

pub read_inner-requires-clause-state : goal.read_inner-requires-clause-state
read_inner-requires-clause-state c =
    let t = c.args.self.now.decoder.table.now in
    let m = message c.args.self.now.decoder in
    let f = c.args.frame in
    let old = at_of c.args.state.now in
    let now = at_of c.loop-many.state in
    let a = c.loop-many.state.steps - c.args.state.now.steps in
    let begun = c.loop-many.invariant.steps in
    let g = behind_envelopes f c.args.entry c.loop-many.passed c.loop-many.many c.loop-many.done in
    let new = at_of c.take_envelope.new.state in
    let spent = c.take_envelope.new.state.steps - c.loop-many.state.steps in
    let all = c.take_envelope.new.state.steps - c.args.state.now.steps in
    let rises = c.in_ok-below.ensures.rises in
    let then = behind_envelopes f c.args.entry (c.loop-many.passed + 1) (c.loop-many.many - 1) (c.loop-many.done + 8) in
    let one = subst (λ (x : Frame). Turns t m x now new spent (record { below = c.in_ok-below.below; rest = Some (behind_envelopes x c.args.entry (c.loop-many.passed + 1) (c.loop-many.many - 1) (x.done + 8)) })) c.envelopes_from-now.ensures c.in_ok-below.ensures.ok in
    let run = turns_then t m f old now a g c.loop-many.invariant.turns new spent all (record { below = c.in_ok-below.below; rest = Some (then) }) (omega (arith, begun, rises)) one in
    let held = subst (λ (o : Option Frame). Turns t m f old new all (record { below = o; rest = Some (then) })) c.in-Some.is run in
    held.state

pub read_inner-requires-clause-ready : goal.read_inner-requires-clause-ready
read_inner-requires-clause-ready c =
    let t = c.args.self.now.decoder.table.now in
    let m = message c.args.self.now.decoder in
    let f = c.args.frame in
    let old = at_of c.args.state.now in
    let now = at_of c.loop-many.state in
    let a = c.loop-many.state.steps - c.args.state.now.steps in
    let begun = c.loop-many.invariant.steps in
    let g = behind_envelopes f c.args.entry c.loop-many.passed c.loop-many.many c.loop-many.done in
    let new = at_of c.take_envelope.new.state in
    let spent = c.take_envelope.new.state.steps - c.loop-many.state.steps in
    let all = c.take_envelope.new.state.steps - c.args.state.now.steps in
    let rises = c.in_ok-below.ensures.rises in
    let then = behind_envelopes f c.args.entry (c.loop-many.passed + 1) (c.loop-many.many - 1) (c.loop-many.done + 8) in
    let one = subst (λ (x : Frame). Turns t m x now new spent (record { below = c.in_ok-below.below; rest = Some (behind_envelopes x c.args.entry (c.loop-many.passed + 1) (c.loop-many.many - 1) (x.done + 8)) })) c.envelopes_from-now.ensures c.in_ok-below.ensures.ok in
    let run = turns_then t m f old now a g c.loop-many.invariant.turns new spent all (record { below = c.in_ok-below.below; rest = Some (then) }) (omega (arith, begun, rises)) one in
    let held = subst (λ (o : Option Frame). Turns t m f old new all (record { below = o; rest = Some (then) })) c.in-Some.is run in
    let p = held.moves c.requires.ready.0 c.requires.ready.1 in
    (p.ahead, p.below_clear)

pub read_inner-requires-clause-budget : goal.read_inner-requires-clause-budget
read_inner-requires-clause-budget c =
    let t = c.args.self.now.decoder.table.now in
    let m = message c.args.self.now.decoder in
    let f = c.args.frame in
    let old = at_of c.args.state.now in
    let now = at_of c.loop-many.state in
    let a = c.loop-many.state.steps - c.args.state.now.steps in
    let begun = c.loop-many.invariant.steps in
    let g = behind_envelopes f c.args.entry c.loop-many.passed c.loop-many.many c.loop-many.done in
    let new = at_of c.take_envelope.new.state in
    let spent = c.take_envelope.new.state.steps - c.loop-many.state.steps in
    let all = c.take_envelope.new.state.steps - c.args.state.now.steps in
    let rises = c.in_ok-below.ensures.rises in
    let then = behind_envelopes f c.args.entry (c.loop-many.passed + 1) (c.loop-many.many - 1) (c.loop-many.done + 8) in
    let one = subst (λ (x : Frame). Turns t m x now new spent (record { below = c.in_ok-below.below; rest = Some (behind_envelopes x c.args.entry (c.loop-many.passed + 1) (c.loop-many.many - 1) (x.done + 8)) })) c.envelopes_from-now.ensures c.in_ok-below.ensures.ok in
    let run = turns_then t m f old now a g c.loop-many.invariant.turns new spent all (record { below = c.in_ok-below.below; rest = Some (then) }) (omega (arith, begun, rises)) one in
    let held = subst (λ (o : Option Frame). Turns t m f old new all (record { below = o; rest = Some (then) })) c.in-Some.is run in
    let less = held.less in
    omega (arith, less, begun, rises, c.requires.budget)

pub returns-in_err-turn-clause-cost : goal.returns-in_err-turn-clause-cost
returns-in_err-turn-clause-cost c =
    let t = c.args.self.now.decoder.table.now in
    let m = message c.args.self.now.decoder in
    let f = c.args.frame in
    let old = at_of c.args.state.now in
    let now = at_of c.loop-many.state in
    let a = c.loop-many.state.steps - c.args.state.now.steps in
    let begun = c.loop-many.invariant.steps in
    let g = behind_envelopes f c.args.entry c.loop-many.passed c.loop-many.many c.loop-many.done in
    let new = at_of c.take_envelope.new.state in
    let spent = c.take_envelope.new.state.steps - c.loop-many.state.steps in
    let all = c.take_envelope.new.state.steps - c.args.state.now.steps in
    let rises = c.in_ok-below.ensures.rises in
    let then = behind_envelopes f c.args.entry (c.loop-many.passed + 1) (c.loop-many.many - 1) (c.loop-many.done + 8) in
    let one = subst (λ (x : Frame). Turns t m x now new spent (record { below = c.in_ok-below.below; rest = Some (behind_envelopes x c.args.entry (c.loop-many.passed + 1) (c.loop-many.many - 1) (x.done + 8)) })) c.envelopes_from-now.ensures c.in_ok-below.ensures.ok in
    let run = turns_then t m f old now a g c.loop-many.invariant.turns new spent all (record { below = c.in_ok-below.below; rest = Some (then) }) (omega (arith, begun, rises)) one in
    let held = subst (λ (o : Option Frame). Turns t m f old new all (record { below = o; rest = Some (then) })) c.in-Some.is run in
    let less = held.less in
    omega (arith, less, begun, rises, c.in_err-turn.ensures.cost)

pub returns-in_err-turn-clause-fault_is_true : goal.returns-in_err-turn-clause-fault_is_true
returns-in_err-turn-clause-fault_is_true c =
    let t = c.args.self.now.decoder.table.now in
    let m = message c.args.self.now.decoder in
    let f = c.args.frame in
    let old = at_of c.args.state.now in
    let now = at_of c.loop-many.state in
    let a = c.loop-many.state.steps - c.args.state.now.steps in
    let begun = c.loop-many.invariant.steps in
    let g = behind_envelopes f c.args.entry c.loop-many.passed c.loop-many.many c.loop-many.done in
    let new = at_of c.take_envelope.new.state in
    let spent = c.take_envelope.new.state.steps - c.loop-many.state.steps in
    let all = c.take_envelope.new.state.steps - c.args.state.now.steps in
    let rises = c.in_ok-below.ensures.rises in
    let then = behind_envelopes f c.args.entry (c.loop-many.passed + 1) (c.loop-many.many - 1) (c.loop-many.done + 8) in
    let one = subst (λ (x : Frame). Turns t m x now new spent (record { below = c.in_ok-below.below; rest = Some (behind_envelopes x c.args.entry (c.loop-many.passed + 1) (c.loop-many.many - 1) (x.done + 8)) })) c.envelopes_from-now.ensures c.in_ok-below.ensures.ok in
    let run = turns_then t m f old now a g c.loop-many.invariant.turns new spent all (record { below = c.in_ok-below.below; rest = Some (then) }) (omega (arith, begun, rises)) one in
    let held = subst (λ (o : Option Frame). Turns t m f old new all (record { below = o; rest = Some (then) })) c.in-Some.is run in
    passed_on c.from_residual-in_err-turn.result c.in_err-turn.field-0.0 _ c.from_residual-in_err-turn.ensures.1
    (below_breaks t m f old new all c.in-Some.inner then held _ c.in_err-turn.ensures.fault_is_true)

pub loop-many-preserved : goal.loop-many-preserved
loop-many-preserved c =
    let t = c.args.self.now.decoder.table.now in
    let m = message c.args.self.now.decoder in
    let f = c.args.frame in
    let old = at_of c.args.state.now in
    let now = at_of c.loop-many.state in
    let a = c.loop-many.state.steps - c.args.state.now.steps in
    let begun = c.loop-many.invariant.steps in
    let g = behind_envelopes f c.args.entry c.loop-many.passed c.loop-many.many c.loop-many.done in
    let new = at_of c.take_envelope.new.state in
    let spent = c.take_envelope.new.state.steps - c.loop-many.state.steps in
    let all = c.take_envelope.new.state.steps - c.args.state.now.steps in
    let rises = c.in_ok-below.ensures.rises in
    let then = behind_envelopes f c.args.entry (c.loop-many.passed + 1) (c.loop-many.many - 1) (c.loop-many.done + 8) in
    let one = subst (λ (x : Frame). Turns t m x now new spent (record { below = c.in_ok-below.below; rest = Some (behind_envelopes x c.args.entry (c.loop-many.passed + 1) (c.loop-many.many - 1) (x.done + 8)) })) c.envelopes_from-now.ensures c.in_ok-below.ensures.ok in
    let run = turns_then t m f old now a g c.loop-many.invariant.turns new spent all (record { below = c.in_ok-below.below; rest = Some (then) }) (omega (arith, begun, rises)) one in
    let held = subst (λ (o : Option Frame). Turns t m f old new all (record { below = o; rest = Some (then) })) c.in-Some.is run in
    let more = c.in_ok-turn.ensures.grows in
    let nothing : c.in_ok-turn.turn ≡ left_over None = c.is_done.ensures.0 c.if-is_done.true in
    let two = subst (λ (x : Turn). Turns t m c.in-Some.inner new (at_of c.read_inner.new.state) (c.read_inner.new.state.steps - c.take_envelope.new.state.steps) x) nothing c.in_ok-turn.ensures.ok in
    record {
      holds = c.read_inner.ensures.holds;
      turns = turns_over t m f old new all c.in-Some.inner then held (at_of c.read_inner.new.state) _ _ (omega (arith, begun, rises, more)) two;
      steps = omega (arith, begun, rises, more);
    }

pub returns-in-loop-many-clause-ok : goal.returns-in-loop-many-clause-ok
returns-in-loop-many-clause-ok c =
    let t = c.args.self.now.decoder.table.now in
    let m = message c.args.self.now.decoder in
    let f = c.args.frame in
    let old = at_of c.args.state.now in
    let now = at_of c.loop-many.state in
    let a = c.loop-many.state.steps - c.args.state.now.steps in
    let begun = c.loop-many.invariant.steps in
    let g = behind_envelopes f c.args.entry c.loop-many.passed c.loop-many.many c.loop-many.done in
    let new = at_of c.take_envelope.new.state in
    let spent = c.take_envelope.new.state.steps - c.loop-many.state.steps in
    let all = c.take_envelope.new.state.steps - c.args.state.now.steps in
    let rises = c.in_ok-below.ensures.rises in
    let then = behind_envelopes f c.args.entry (c.loop-many.passed + 1) (c.loop-many.many - 1) (c.loop-many.done + 8) in
    let one = subst (λ (x : Frame). Turns t m x now new spent (record { below = c.in_ok-below.below; rest = Some (behind_envelopes x c.args.entry (c.loop-many.passed + 1) (c.loop-many.many - 1) (x.done + 8)) })) c.envelopes_from-now.ensures c.in_ok-below.ensures.ok in
    let run = turns_then t m f old now a g c.loop-many.invariant.turns new spent all (record { below = c.in_ok-below.below; rest = Some (then) }) (omega (arith, begun, rises)) one in
    let held = subst (λ (o : Option Frame). Turns t m f old new all (record { below = o; rest = Some (then) })) c.in-Some.is run in
    let more = c.in_ok-turn.ensures.grows in
    record {
      above = c.in-Some.inner;
      mid = new;
      before = all;
      behind = c.read_inner.new.state.steps - c.take_envelope.new.state.steps;
      all = omega (arith, begun, rises, more);
      up_to = subst (λ (x : Frame). Turns t m f old new all (record { below = Some c.in-Some.inner; rest = Some x })) (sym c.envelopes_from.ensures) held;
      turns = c.in_ok-turn.ensures.ok;
    }

pub returns-in-loop-many-clause-cost : goal.returns-in-loop-many-clause-cost
returns-in-loop-many-clause-cost c =
    let t = c.args.self.now.decoder.table.now in
    let m = message c.args.self.now.decoder in
    let f = c.args.frame in
    let old = at_of c.args.state.now in
    let now = at_of c.loop-many.state in
    let a = c.loop-many.state.steps - c.args.state.now.steps in
    let begun = c.loop-many.invariant.steps in
    let g = behind_envelopes f c.args.entry c.loop-many.passed c.loop-many.many c.loop-many.done in
    let new = at_of c.take_envelope.new.state in
    let spent = c.take_envelope.new.state.steps - c.loop-many.state.steps in
    let all = c.take_envelope.new.state.steps - c.args.state.now.steps in
    let rises = c.in_ok-below.ensures.rises in
    let then = behind_envelopes f c.args.entry (c.loop-many.passed + 1) (c.loop-many.many - 1) (c.loop-many.done + 8) in
    let one = subst (λ (x : Frame). Turns t m x now new spent (record { below = c.in_ok-below.below; rest = Some (behind_envelopes x c.args.entry (c.loop-many.passed + 1) (c.loop-many.many - 1) (x.done + 8)) })) c.envelopes_from-now.ensures c.in_ok-below.ensures.ok in
    let run = turns_then t m f old now a g c.loop-many.invariant.turns new spent all (record { below = c.in_ok-below.below; rest = Some (then) }) (omega (arith, begun, rises)) one in
    let held = subst (λ (o : Option Frame). Turns t m f old new all (record { below = o; rest = Some (then) })) c.in-Some.is run in
    let less = held.less in
    omega (arith, less, begun, rises, c.in_ok-turn.ensures.cost)
