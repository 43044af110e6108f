use Rattle.fidl_decode_values.specs.Reading.{message}
use Rattle.fidl_decode_values.proofs.Fitting.{spends_some}
use Rattle.fidl_decode_values.proofs.Unchanged.{no_ok}
use Rattle.std.proofs.Common.{◌≡◌, ◌+◌, ◌-◌, ◌∙◌, true, false, refl, sym, subst, arith}
use Rattle.std.specs.Prelude.{None}
use Rattle.fidl_decode_model.specs.declared.fault.DecodeFault.TheVariants.{WrongCounts}
use Rattle.fidl_decode_model.specs.declared.frame.Frame.{Frame}
use Rattle.fidl_decode_model.specs.declared.frame.Remaining.TheVariants.{Content}
use Rattle.fidl_decode_model.specs.Machine.{Turns, BreaksFrame, FrameFine, at_of}
use Rattle.fidl_decode_model.specs.Envelopes.{IsUntil}
use Rattle.fidl_decode_columns.proofs.Leaves.{same_frame}
use Rattle.fidl_decode_model.proofs.Turning.{passed_on}
use Rattle.fidl_decode_values.proofs.ContentTurns.{content_end_room, content_over, content_miscounted, content_end_breaks}
use Rattle.fidl_decode.proofs.frames.Frames.end_content.Goals as goal

no_true : false ≡ true → ⊥
no_true e = cc

pub overflow_add-at : goal.overflow_add-at
overflow_add-at c =
    let t = c.args.self.now.decoder.table.now in
    let m = message c.args.self.now.decoder in
    let same = same_frame c.args.frame (Content c.requires.left.0 c.requires.left.1 0 c.args.until) c.requires.left.2 in
    let own = subst (λ (f : Frame). FrameFine t m.bytes f) same c.requires.frame in
    let room = content_end_room t c.args.self.now.decoder.fine m c.args.frame c.requires.left.0 c.requires.left.1 0 c.args.until (at_of c.args.state.now) own c.requires.state in record { fits = omega (arith, room.0, room.1, c.args.self.now.decoder.short) }

pub overflow_add-stop : goal.overflow_add-stop
overflow_add-stop c =
    let t = c.args.self.now.decoder.table.now in
    let m = message c.args.self.now.decoder in
    let same = same_frame c.args.frame (Content c.requires.left.0 c.requires.left.1 0 c.args.until) c.requires.left.2 in
    let own = subst (λ (f : Frame). FrameFine t m.bytes f) same c.requires.frame in
    let room = content_end_room t c.args.self.now.decoder.fine m c.args.frame c.requires.left.0 c.requires.left.1 0 c.args.until (at_of c.args.state.now) own c.requires.state in record { fits = omega (arith, room.1, c.args.self.now.decoder.short) }

pub overflow_sub-state : goal.overflow_sub-state
overflow_sub-state c =
    let t = c.args.self.now.decoder.table.now in
    let m = message c.args.self.now.decoder in
    let same = same_frame c.args.frame (Content c.requires.left.0 c.requires.left.1 0 c.args.until) c.requires.left.2 in
    let own = subst (λ (f : Frame). FrameFine t m.bytes f) same c.requires.frame in
    let room = content_end_room t c.args.self.now.decoder.fine m c.args.frame c.requires.left.0 c.requires.left.1 0 c.args.until (at_of c.args.state.now) own c.requires.state in omega (arith, room.0)

pub overflow_add-state : goal.overflow_add-state
overflow_add-state c =
    let t = c.args.self.now.decoder.table.now in
    let m = message c.args.self.now.decoder in
    let same = same_frame c.args.frame (Content c.requires.left.0 c.requires.left.1 0 c.args.until) c.requires.left.2 in
    let own = subst (λ (f : Frame). FrameFine t m.bytes f) same c.requires.frame in
    let room = content_end_room t c.args.self.now.decoder.fine m c.args.frame c.requires.left.0 c.requires.left.1 0 c.args.until (at_of c.args.state.now) own c.requires.state in record { fits = omega (arith, room.1, c.args.self.now.decoder.short) }

pub overflow_add-state-2 : goal.overflow_add-state-2
overflow_add-state-2 c =
    let t = c.args.self.now.decoder.table.now in
    let m = message c.args.self.now.decoder in
    let same = same_frame c.args.frame (Content c.requires.left.0 c.requires.left.1 0 c.args.until) c.requires.left.2 in
    let own = subst (λ (f : Frame). FrameFine t m.bytes f) same c.requires.frame in
    let room = content_end_room t c.args.self.now.decoder.fine m c.args.frame c.requires.left.0 c.requires.left.1 0 c.args.until (at_of c.args.state.now) own c.requires.state in record { fits = omega (arith, room.1, c.args.self.now.decoder.short, c.requires.steps) }

pub zeros_at-requires-clause-order : goal.zeros_at-requires-clause-order
zeros_at-requires-clause-order c =
    let t = c.args.self.now.decoder.table.now in
    let m = message c.args.self.now.decoder in
    let same = same_frame c.args.frame (Content c.requires.left.0 c.requires.left.1 0 c.args.until) c.requires.left.2 in
    let own = subst (λ (f : Frame). FrameFine t m.bytes f) same c.requires.frame in
    let room = content_end_room t c.args.self.now.decoder.fine m c.args.frame c.requires.left.0 c.requires.left.1 0 c.args.until (at_of c.args.state.now) own c.requires.state in omega (arith, room.0)

pub zeros_at-requires-clause-room : goal.zeros_at-requires-clause-room
zeros_at-requires-clause-room c =
    let t = c.args.self.now.decoder.table.now in
    let m = message c.args.self.now.decoder in
    let same = same_frame c.args.frame (Content c.requires.left.0 c.requires.left.1 0 c.args.until) c.requires.left.2 in
    let own = subst (λ (f : Frame). FrameFine t m.bytes f) same c.requires.frame in
    let room = content_end_room t c.args.self.now.decoder.fine m c.args.frame c.requires.left.0 c.requires.left.1 0 c.args.until (at_of c.args.state.now) own c.requires.state in room.1

pub returns-in_err-zeros_at-clause-spends : goal.returns-in_err-zeros_at-clause-spends
returns-in_err-zeros_at-clause-spends c =
    let t = c.args.self.now.decoder.table.now in
    let m = message c.args.self.now.decoder in
    let same = same_frame c.args.frame (Content c.requires.left.0 c.requires.left.1 0 c.args.until) c.requires.left.2 in
    let own = subst (λ (f : Frame). FrameFine t m.bytes f) same c.requires.frame in
    spends_some _ _ _ (omega arith) (let room = content_end_room t c.args.self.now.decoder.fine m c.args.frame c.requires.left.0 c.requires.left.1 0 c.args.until (at_of c.args.state.now) own c.requires.state in omega (arith, room.2))

pub returns-in_err-zeros_at-clause-fault_is_true : goal.returns-in_err-zeros_at-clause-fault_is_true
returns-in_err-zeros_at-clause-fault_is_true c =
    let t = c.args.self.now.decoder.table.now in
    let m = message c.args.self.now.decoder in
    let same = same_frame c.args.frame (Content c.requires.left.0 c.requires.left.1 0 c.args.until) c.requires.left.2 in
    let own = subst (λ (f : Frame). FrameFine t m.bytes f) same c.requires.frame in
    passed_on c.from_residual.result c.in_err-zeros_at.field-0.0 _ c.from_residual.ensures.1
    (subst (λ (f : Frame). BreaksFrame t m f (at_of c.args.state.now) c.in_err-zeros_at.field-0.0) (sym same)
    (content_end_breaks t c.args.self.now.decoder.fine m c.args.frame c.requires.left.0 c.requires.left.1 0 c.args.until (at_of c.args.state.now) own
    c.requires.state refl c.in_err-zeros_at.field-0.0 c.in_err-zeros_at.ensures.fault_is_true))

pub returns-then-not-is_counted-clause-spends : goal.returns-then-not-is_counted-clause-spends
returns-then-not-is_counted-clause-spends c =
    let t = c.args.self.now.decoder.table.now in
    let m = message c.args.self.now.decoder in
    let same = same_frame c.args.frame (Content c.requires.left.0 c.requires.left.1 0 c.args.until) c.requires.left.2 in
    let own = subst (λ (f : Frame). FrameFine t m.bytes f) same c.requires.frame in
    spends_some _ _ _ (omega arith) (let room = content_end_room t c.args.self.now.decoder.fine m c.args.frame c.requires.left.0 c.requires.left.1 0 c.args.until (at_of c.args.state.now) own c.requires.state in omega (arith, room.2))

pub returns-then-not-is_counted-clause-fault_is_true : goal.returns-then-not-is_counted-clause-fault_is_true
returns-then-not-is_counted-clause-fault_is_true c =
    let t = c.args.self.now.decoder.table.now in
    let m = message c.args.self.now.decoder in
    let same = same_frame c.args.frame (Content c.requires.left.0 c.requires.left.1 0 c.args.until) c.requires.left.2 in
    let own = subst (λ (f : Frame). FrameFine t m.bytes f) same c.requires.frame in
    let other : IsUntil c.args.until (at_of c.args.state.now) → ⊥ = λ u. no_true (sym c.if-not-is_counted.true ∙ c.is_counted.ensures.1 u) in
    subst (λ (f : Frame). BreaksFrame t m f (at_of c.args.state.now) (WrongCounts c.args.until.envelope)) (sym same)
    (content_miscounted t c.args.self.now.decoder.fine m c.args.frame c.requires.left.0 c.requires.left.1 0 c.args.until (at_of c.args.state.now) own
    c.requires.state refl c.in_ok-zeros_at.ensures.ok other)

pub returns-clause-ok : goal.returns-clause-ok
returns-clause-ok c =
    let t = c.args.self.now.decoder.table.now in
    let m = message c.args.self.now.decoder in
    let same = same_frame c.args.frame (Content c.requires.left.0 c.requires.left.1 0 c.args.until) c.requires.left.2 in
    let own = subst (λ (f : Frame). FrameFine t m.bytes f) same c.requires.frame in
    subst (λ (f : Frame). Turns t m f (at_of c.args.state.now) (at_of c.args.state.now)
    (c.args.state.now.steps + (c.args.frame.base + c.args.frame.size - (c.args.frame.base + c.args.frame.done) + 1) - c.args.state.now.steps)
    (record { below = None; rest = None })) (sym same) (content_over t c.args.self.now.decoder.fine m c.args.frame c.requires.left.0 c.requires.left.1 0
    c.args.until (at_of c.args.state.now) own c.requires.state refl c.in_ok-zeros_at.ensures.ok
    (c.is_counted.ensures.0 c.if-not-is_counted.false) _ (omega arith))

pub returns-clause-spends : goal.returns-clause-spends
returns-clause-spends c =
    let t = c.args.self.now.decoder.table.now in
    let m = message c.args.self.now.decoder in
    let same = same_frame c.args.frame (Content c.requires.left.0 c.requires.left.1 0 c.args.until) c.requires.left.2 in
    let own = subst (λ (f : Frame). FrameFine t m.bytes f) same c.requires.frame in
    spends_some _ _ _ (omega arith) (let room = content_end_room t c.args.self.now.decoder.fine m c.args.frame c.requires.left.0 c.requires.left.1 0 c.args.until (at_of c.args.state.now) own c.requires.state in omega (arith, room.2))

pub returns-in_err-zeros_at-clause-ok : goal.returns-in_err-zeros_at-clause-ok
returns-in_err-zeros_at-clause-ok c = no_ok c.from_residual.result c.in_err-zeros_at.field-0.0 _ c.from_residual.ensures.1

pub returns-then-not-is_counted-clause-ok : goal.returns-then-not-is_counted-clause-ok
returns-then-not-is_counted-clause-ok c = tt

pub returns-clause-fault_is_true : goal.returns-clause-fault_is_true
returns-clause-fault_is_true c = tt
