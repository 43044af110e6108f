use Rattle.fidl_decode_values.specs.Reading.{message}
use Rattle.std.proofs.Common.{rules, ◌-◌, refl, ◌≡◌, ◌+◌, ◌++◌, ◌<◌, List, [], ◌∷◌, Option, Some, None, length, sym, ap, ◌∙◌, subst, arith}
use Rattle.std.specs.Option.{option_to_list}
use Rattle.std.specs.Prelude.{◌↔◌, IfSome, IfNone}
use Rattle.fidl_limits.specs.declared.limits.TheConstants.{STACK_PLACES}
use Rattle.fidl_decode_model.specs.declared.frame.Frame.{Frame}
use Rattle.fidl_decode_model.specs.declared.fault.DecodeFault.{DecodeFault}
use Rattle.fidl_decode_model.specs.Machine.{at_of, BreaksFrame, BreaksStack, IsStopped, Finishes, StackFine, work}
use Rattle.fidl_decode_model.specs.Worth.{FinishesWorth}
use Rattle.fidl_decode.proofs.Running.{finishes_raised, worth_all, read_all, stack_work_top, fine_top, top_breaks}
use Rattle.fidl_decode.proofs.Leaving.{stack_left, left_same, left_worth, left_breaks, left_fine, left_less, left_ready, left_state, left_rooms}
use Rattle.fidl_decode.proofs.Refusing.{broken_stopped}
use Rattle.fidl_decode_values.specs.Ready.{StackReady}
use Rattle.fidl_decode.proofs.ReadyStack.{top_ready}
use Rattle.fidl_decode.proofs.run.run.Goals as goal

-- the frame that is read next is the last one
taken : (fs : List Frame) (next : Option Frame) (f : Frame) → next ≡ Some f → fs ++ option_to_list next ≡ fs ++ f ∷ []
taken fs next f is = ap (λ (o : Option Frame). fs ++ option_to_list o) is

-- none is left where none is next
none_left : (fs : List Frame) (next : Option Frame) → next ≡ None → IfNone next (fs ≡ []) → 0 < length (fs ++ option_to_list next) → ⊥
none_left fs next is last lt =
    let empty : fs ≡ [] = subst (λ (o : Option Frame). IfNone o (fs ≡ [])) is last in
    let all = ap (λ (l : List Frame). length (l ++ option_to_list next)) empty ∙ ap (λ (o : Option Frame). length (option_to_list o)) is in
    absurd (omega (arith, lt, all))

-- where no frame is left but the next
last_of : (fs : List Frame) (next : Option Frame) → fs ≡ [] → IfNone next (fs ≡ [])
last_of fs None is = is
last_of fs (Some f) is = tt

pub take_turn-requires-clause-frame : goal.take_turn-requires-clause-frame
take_turn-requires-clause-frame c =
    let top = fine_top c.args.frames.now.decoder.table.now (message c.args.frames.now.decoder) 0 c.loop-next.stack.items c.in-Some.frame (subst (λ
    (l : List Frame). StackFine c.args.frames.now.decoder.table.now c.args.frames.now.decoder.bytes.value.came 0 l) (taken c.loop-next.stack.items c.loop-next.next c.in-Some.frame c.in-Some.is) c.loop-next.invariant.fine) in
    top.1

pub take_turn-requires-clause-ready : goal.take_turn-requires-clause-ready
take_turn-requires-clause-ready c =
    let ready = subst (λ (l : List Frame). StackReady c.args.frames.now.decoder.table.now (message c.args.frames.now.decoder) (at_of c.loop-next.state) l) (taken c.loop-next.stack.items c.loop-next.next c.in-Some.frame c.in-Some.is) c.loop-next.invariant.ready in
    (ready.0, top_ready c.args.frames.now.decoder.table.now (message c.args.frames.now.decoder) c.loop-next.stack.items c.in-Some.frame (at_of c.loop-next.state) ready)

pub push_if-requires : goal.push_if-requires
push_if-requires c =
    let top = fine_top c.args.frames.now.decoder.table.now (message c.args.frames.now.decoder) 0 c.loop-next.stack.items c.in-Some.frame (subst (λ
    (l : List Frame). StackFine c.args.frames.now.decoder.table.now c.args.frames.now.decoder.bytes.value.came 0 l) (taken c.loop-next.stack.items c.loop-next.next c.in-Some.frame c.in-Some.is) c.loop-next.invariant.fine) in
    let rooms = left_rooms c.args.frames.now.decoder.table.now (message c.args.frames.now.decoder) c.loop-next.stack.items c.in-Some.frame (at_of c.loop-next.state) (at_of c.take_turn.new.state) _ c.in_ok-left.left.under c.in_ok-left.left.turn c.in_ok-left.ensures.ok (omega (arith, top.2)) in
    rooms.0

pub push_if-requires-in-Some : goal.push_if-requires-in-Some
push_if-requires-in-Some c =
    let top = fine_top c.args.frames.now.decoder.table.now (message c.args.frames.now.decoder) 0 c.loop-next.stack.items c.in-Some.frame (subst (λ
    (l : List Frame). StackFine c.args.frames.now.decoder.table.now c.args.frames.now.decoder.bytes.value.came 0 l) (taken c.loop-next.stack.items c.loop-next.next c.in-Some.frame c.in-Some.is) c.loop-next.invariant.fine) in
    let rooms = left_rooms c.args.frames.now.decoder.table.now (message c.args.frames.now.decoder) c.loop-next.stack.items c.in-Some.frame (at_of c.loop-next.state) (at_of c.take_turn.new.state) _ c.in_ok-left.left.under c.in_ok-left.left.turn c.in_ok-left.ensures.ok (omega (arith, top.2)) in
    subst (λ (l : List Frame). IfSome c.in_ok-left.left.turn.rest (λ f. length l < STACK_PLACES)) (sym c.push_if.ensures) rooms.1

pub loop-next-smaller : goal.loop-next-smaller
loop-next-smaller c =
    let popped = (taken c.loop-next.stack.items c.loop-next.next c.in-Some.frame c.in-Some.is) in
    let two = c.push_if-in-Some.ensures ∙ ap (λ (l : List Frame). l ++ option_to_list c.in_ok-left.left.turn.rest) c.push_if.ensures in
    let after : (c.next_frame-next.new.stack.items ++ option_to_list c.next_frame-next.result) ≡ stack_left c.loop-next.stack.items c.in_ok-left.left.under c.in_ok-left.left.turn = c.next_frame-next.ensures.same ∙ ap (λ (l : List Frame). l ++ option_to_list c.in_ok-left.left.turn.below) two in
    let less = left_less c.args.frames.now.decoder.table.now (message c.args.frames.now.decoder) c.loop-next.stack.items c.in-Some.frame (at_of c.loop-next.state) _ _ c.in_ok-left.left.under c.in_ok-left.left.turn c.in_ok-left.ensures.ok in
    let new = ap (λ (l : List Frame). work c.args.frames.now.decoder.bytes.value.came l c.take_turn.new.state.next) after in
    let old = ap (λ (l : List Frame). work c.args.frames.now.decoder.bytes.value.came l c.loop-next.state.next) popped in
    let fewer : work c.args.frames.now.decoder.bytes.value.came (c.next_frame-next.new.stack.items ++ option_to_list c.next_frame-next.result)
    c.take_turn.new.state.next < work c.args.frames.now.decoder.bytes.value.came (c.loop-next.stack.items ++ option_to_list c.loop-next.next) c.loop-next.state.next = omega (arith, c.in_ok-left.ensures.rises) in
    fewer

pub loop-next-init : goal.loop-next-init
loop-next-init c =
    let t = c.args.frames.now.decoder.table.now in
    let m = message c.args.frames.now.decoder in
    let at = at_of c.args.state.now in
    let begun : c.clear.new.self.items ++ option_to_list c.args.top ≡ option_to_list c.args.top = ap (λ (l : List Frame). l ++ option_to_list c.args.top) c.clear.ensures in
    record {
      holds = c.requires.holds;
      same = λ to. subst (λ (l : List Frame). Finishes t m (option_to_list c.args.top) at to ↔ Finishes t m l at to) (sym begun) ((λ h. h), (λ h. h));
      breaks = λ fault. subst (λ (l : List Frame). BreaksStack t m l at fault → BreaksStack t m (option_to_list c.args.top) at fault) (sym begun) (λ b. b);
      grows = omega arith;
      least = λ to w. subst (λ (l : List Frame). FinishesWorth t m l at to w → FinishesWorth t m (option_to_list c.args.top) at to (w + (c.args.state.now.steps - c.args.state.now.steps))) (sym begun)
          (λ h. finishes_raised t m (option_to_list c.args.top) at to w _ (omega arith) h);
      fine = subst (λ (l : List Frame). StackFine t c.args.frames.now.decoder.bytes.value.came 0 l) (sym begun) c.requires.fine;
      steps = (let same = ap (λ (l : List Frame). work c.args.frames.now.decoder.bytes.value.came l c.args.state.now.next) begun in omega (arith, same));
      state = c.requires.state;
      last = last_of c.clear.new.self.items c.args.top c.clear.ensures;
      ready = subst (λ (l : List Frame). StackReady t m at l) (sym begun) c.requires.ready;
    }

pub loop-next-preserved : goal.loop-next-preserved
loop-next-preserved c =
    let popped = (taken c.loop-next.stack.items c.loop-next.next c.in-Some.frame c.in-Some.is) in
    let two = c.push_if-in-Some.ensures ∙ ap (λ (l : List Frame). l ++ option_to_list c.in_ok-left.left.turn.rest) c.push_if.ensures in
    let after : (c.next_frame-next.new.stack.items ++ option_to_list c.next_frame-next.result) ≡ stack_left c.loop-next.stack.items c.in_ok-left.left.under c.in_ok-left.left.turn = c.next_frame-next.ensures.same ∙ ap (λ (l : List Frame). l ++ option_to_list c.in_ok-left.left.turn.below) two in
    let before = c.loop-next.invariant.same in
    record {
      holds = c.take_turn.ensures.holds;
      same = λ to. (
        (λ h. subst (λ (l : List Frame). Finishes c.args.frames.now.decoder.table.now (message c.args.frames.now.decoder) l (at_of c.take_turn.new.state) to)
            (sym after) ((left_same c.args.frames.now.decoder.table.now (message c.args.frames.now.decoder) c.loop-next.stack.items c.in-Some.frame
            (at_of c.loop-next.state) _ _ c.in_ok-left.left.under c.in_ok-left.left.turn c.in_ok-left.ensures.ok to).0
            (subst (λ (l : List Frame). Finishes c.args.frames.now.decoder.table.now (message c.args.frames.now.decoder) l (at_of c.loop-next.state) to) popped
            ((before to).0 h)))),
        (λ h. (before to).1 (subst (λ (l : List Frame). Finishes c.args.frames.now.decoder.table.now (message c.args.frames.now.decoder) l
            (at_of c.loop-next.state) to) (sym popped) ((left_same c.args.frames.now.decoder.table.now (message c.args.frames.now.decoder) c.loop-next.stack.items
            c.in-Some.frame (at_of c.loop-next.state) _ _ c.in_ok-left.left.under c.in_ok-left.left.turn c.in_ok-left.ensures.ok to).1
            (subst (λ (l : List Frame). Finishes c.args.frames.now.decoder.table.now (message c.args.frames.now.decoder) l (at_of c.take_turn.new.state) to) after
            h)))),
      );
      breaks = λ fault b. c.loop-next.invariant.breaks fault (subst (λ (l : List Frame). BreaksStack c.args.frames.now.decoder.table.now (message c.args.frames.now.decoder) l (at_of c.loop-next.state) fault) (sym popped)
          (left_breaks c.args.frames.now.decoder.table.now (message c.args.frames.now.decoder) c.loop-next.stack.items c.in-Some.frame (at_of c.loop-next.state) _ _
          c.in_ok-left.left.under c.in_ok-left.left.turn c.in_ok-left.ensures.ok fault (subst (λ (l : List Frame). BreaksStack c.args.frames.now.decoder.table.now
          (message c.args.frames.now.decoder) l (at_of c.take_turn.new.state) fault) after b)));
      grows = omega (arith, c.loop-next.invariant.grows, c.in_ok-left.ensures.rises);
      least = λ to w h.
          let spent = c.take_turn.new.state.steps - c.loop-next.state.steps in
          let now = subst (λ (l : List Frame). FinishesWorth c.args.frames.now.decoder.table.now (message c.args.frames.now.decoder) l (at_of c.take_turn.new.state) to w) after h in
          let one = left_worth c.args.frames.now.decoder.table.now (message c.args.frames.now.decoder) c.loop-next.stack.items c.in-Some.frame (at_of c.loop-next.state) (at_of c.take_turn.new.state) spent c.in_ok-left.left.under c.in_ok-left.left.turn c.in_ok-left.ensures.ok to w now in
          let all = c.loop-next.invariant.least to (w + spent) (subst (λ (l : List Frame). FinishesWorth c.args.frames.now.decoder.table.now (message c.args.frames.now.decoder) l (at_of c.loop-next.state) to (w + spent)) (sym popped) one) in
          finishes_raised c.args.frames.now.decoder.table.now (message c.args.frames.now.decoder) (option_to_list c.args.top) (at_of c.args.state.now) to _ _ (omega (arith, c.loop-next.invariant.grows, c.in_ok-left.ensures.rises)) all;
      fine = subst (λ (l : List Frame). StackFine c.args.frames.now.decoder.table.now c.args.frames.now.decoder.bytes.value.came 0 l) (sym after)
          (left_fine c.args.frames.now.decoder.table.now (message c.args.frames.now.decoder) c.loop-next.stack.items c.in-Some.frame (at_of c.loop-next.state) _ _
          c.in_ok-left.left.under c.in_ok-left.left.turn c.in_ok-left.ensures.ok (subst (λ (l : List Frame). StackFine c.args.frames.now.decoder.table.now
          c.args.frames.now.decoder.bytes.value.came 0 l) popped c.loop-next.invariant.fine));
      steps = (let less = left_less c.args.frames.now.decoder.table.now (message c.args.frames.now.decoder) c.loop-next.stack.items c.in-Some.frame (at_of c.loop-next.state) _ _ c.in_ok-left.left.under c.in_ok-left.left.turn c.in_ok-left.ensures.ok in
          let new = ap (λ (l : List Frame). work c.args.frames.now.decoder.bytes.value.came l c.take_turn.new.state.next) after in
          let old = ap (λ (l : List Frame). work c.args.frames.now.decoder.bytes.value.came l c.loop-next.state.next) popped in
          let so_far = c.loop-next.invariant.steps in
          omega (arith, c.in_ok-left.ensures.rises));
      state = left_state c.args.frames.now.decoder.table.now (message c.args.frames.now.decoder) c.loop-next.stack.items c.in-Some.frame (at_of c.loop-next.state) (at_of c.take_turn.new.state) _ c.in_ok-left.left.under c.in_ok-left.left.turn c.in_ok-left.ensures.ok;
      last = c.next_frame-next.ensures.none;
      ready = subst (λ (l : List Frame). StackReady c.args.frames.now.decoder.table.now (message c.args.frames.now.decoder) (at_of c.take_turn.new.state) l) (sym after)
          (left_ready c.args.frames.now.decoder.table.now (message c.args.frames.now.decoder) c.loop-next.stack.items c.in-Some.frame (at_of c.loop-next.state) (at_of c.take_turn.new.state) _ c.in_ok-left.left.under c.in_ok-left.left.turn c.in_ok-left.ensures.ok
          (subst (λ (l : List Frame). StackReady c.args.frames.now.decoder.table.now (message c.args.frames.now.decoder) (at_of c.loop-next.state) l) popped c.loop-next.invariant.ready));
    }

pub returns-in_err-left-clause-cost : goal.returns-in_err-left-clause-cost
returns-in_err-left-clause-cost c =
    let old = ap (λ (l : List Frame). work c.args.frames.now.decoder.bytes.value.came l c.loop-next.state.next) (taken c.loop-next.stack.items c.loop-next.next c.in-Some.frame c.in-Some.is) in
    let so_far = c.loop-next.invariant.steps in
    omega (arith, c.take_turn.ensures.cost, stack_work_top c.args.frames.now.decoder.table.now (message c.args.frames.now.decoder) c.loop-next.stack.items c.in-Some.frame)

pub returns-in_err-left-clause-fault_is_true : goal.returns-in_err-left-clause-fault_is_true
returns-in_err-left-clause-fault_is_true c =
    let broken : (fault : DecodeFault) → BreaksFrame c.args.frames.now.decoder.table.now (message c.args.frames.now.decoder) c.in-Some.frame
    (at_of c.loop-next.state) fault → IsStopped c.args.frames.now.decoder.table.now (message c.args.frames.now.decoder) (option_to_list c.args.top) (at_of c.args.state.now) fault = λ fault b.
    broken_stopped c.args.frames.now.decoder.table.now (message c.args.frames.now.decoder) (option_to_list c.args.top) (at_of c.args.state.now) fault
    (c.loop-next.invariant.breaks fault (subst (λ (l : List Frame). BreaksStack c.args.frames.now.decoder.table.now (message c.args.frames.now.decoder) l (at_of c.loop-next.state) fault) (sym (taken c.loop-next.stack.items c.loop-next.next c.in-Some.frame c.in-Some.is))
    (top_breaks c.args.frames.now.decoder.table.now (message c.args.frames.now.decoder) c.loop-next.stack.items c.in-Some.frame (at_of c.loop-next.state) fault b))) in
    let h = broken _ c.in_err-left.ensures.fault_is_true in search (rules, h)

pub returns-then-state-frames-clause-fault_is_true : goal.returns-then-state-frames-clause-fault_is_true
returns-then-state-frames-clause-fault_is_true c =
    let all = read_all c.args.frames.now.decoder.table.now (message c.args.frames.now.decoder) (c.loop-next.stack.items ++ option_to_list c.loop-next.next) (at_of c.loop-next.state) (none_left c.loop-next.stack.items c.loop-next.next c.in_default.is c.loop-next.invariant.last) in
    let state = c.loop-next.invariant.state in
    let next = state.next in
    (omega (arith, next, c.if-state-frames.true), (at_of c.loop-next.state, (c.loop-next.invariant.same (at_of c.loop-next.state)).1 all, state, refl))

pub returns-then-state-frames-2-clause-fault_is_true : goal.returns-then-state-frames-2-clause-fault_is_true
returns-then-state-frames-2-clause-fault_is_true c =
    let all = read_all c.args.frames.now.decoder.table.now (message c.args.frames.now.decoder) (c.loop-next.stack.items ++ option_to_list c.loop-next.next) (at_of c.loop-next.state) (none_left c.loop-next.stack.items c.loop-next.next c.in_default.is c.loop-next.invariant.last) in
    let handle = c.loop-next.invariant.state.handle in
    (c.args.frames.now.decoder.sized, (at_of c.loop-next.state, (c.loop-next.invariant.same (at_of c.loop-next.state)).1 all, c.if-state-frames.false ∙ c.args.frames.now.decoder.sized, omega (arith, handle, c.if-state-frames-2.true)))

pub take_turn-requires-clause-budget : goal.take_turn-requires-clause-budget
take_turn-requires-clause-budget c =
    let old = ap (λ (l : List Frame). work c.args.frames.now.decoder.bytes.value.came l c.loop-next.state.next) (taken c.loop-next.stack.items c.loop-next.next c.in-Some.frame c.in-Some.is) in
    let so_far = c.loop-next.invariant.steps in
    omega (arith, old, so_far, c.requires.budget, stack_work_top c.args.frames.now.decoder.table.now (message c.args.frames.now.decoder) c.loop-next.stack.items c.in-Some.frame)

pub returns-clause-least : goal.returns-clause-least
returns-clause-least c =
    finishes_raised c.args.frames.now.decoder.table.now (message c.args.frames.now.decoder) (option_to_list c.args.top) (at_of c.args.state.now) (at_of c.loop-next.state) _ _ (omega arith)
    (c.loop-next.invariant.least (at_of c.loop-next.state) 0
    (worth_all c.args.frames.now.decoder.table.now (message c.args.frames.now.decoder) (c.loop-next.stack.items ++ option_to_list c.loop-next.next) (at_of c.loop-next.state) 0 (none_left c.loop-next.stack.items c.loop-next.next c.in_default.is c.loop-next.invariant.last)))
