use Rattle.fidl_decode_values.specs.Reading.{message}
use Rattle.fidl_decode_values.proofs.Fitting.{spends_some, not_fewer}
use Rattle.fidl_decode_values.proofs.Unchanged.{no_ok}
use Rattle.std.proofs.Common.{◌+◌, ◌-◌, sym, subst, arith}
use Rattle.std.specs.Prelude.{Some}
use Rattle.fidl_decode_model.specs.declared.frame.Frame.{Frame}
use Rattle.fidl_decode_model.specs.declared.frame.Remaining.TheVariants.{Content}
use Rattle.fidl_decode_model.specs.Machine.{Turns, BreaksFrame, FrameFine, at_of}
use Rattle.fidl_decode_columns.proofs.Leaves.{going_on, same_frame}
use Rattle.fidl_decode_model.proofs.Turning.{passed_on}
use Rattle.fidl_decode_values.proofs.ContentTurns.{content_end_room, content_known, content_size, content_room, content_inside, content_breaks, content_turns}
use Rattle.fidl_decode_values.proofs.ReadyBelow.{content_ready}
use Rattle.fidl_decode.proofs.frames.Frames.begin_content.Goals as goal

pub overflow_add-at : goal.overflow_add-at
overflow_add-at c =
    let t = c.args.self.now.decoder.table.now in
    let m = message c.args.self.now.decoder in
    let same = same_frame c.args.frame (Content c.args.entry c.args.size c.args.count c.args.until) c.requires.left in
    let own = subst (λ (f : Frame). FrameFine t m.bytes f) same c.requires.frame in
    let room = content_end_room t c.args.self.now.decoder.fine m c.args.frame c.args.entry c.args.size c.args.count c.args.until (at_of c.args.state.now) own c.requires.state in record { fits = omega (arith, room.0, room.1, c.args.self.now.decoder.short) }

pub visit-requires-clause-entry : goal.visit-requires-clause-entry
visit-requires-clause-entry c =
    let t = c.args.self.now.decoder.table.now in
    let m = message c.args.self.now.decoder in
    let same = same_frame c.args.frame (Content c.args.entry c.args.size c.args.count c.args.until) c.requires.left in
    let own = subst (λ (f : Frame). FrameFine t m.bytes f) same c.requires.frame in
    content_known t c.args.self.now.decoder.fine m c.args.frame c.args.entry c.args.size c.args.count c.args.until (at_of c.args.state.now) own c.requires.state c.requires.some

pub visit-requires-clause-room : goal.visit-requires-clause-room
visit-requires-clause-room c =
    let t = c.args.self.now.decoder.table.now in
    let m = message c.args.self.now.decoder in
    let same = same_frame c.args.frame (Content c.args.entry c.args.size c.args.count c.args.until) c.requires.left in
    let own = subst (λ (f : Frame). FrameFine t m.bytes f) same c.requires.frame in
    let fits = content_room t c.args.self.now.decoder.fine m c.args.frame c.args.entry c.args.size c.args.count c.args.until (at_of c.args.state.now) own c.requires.state c.requires.some in omega (arith, fits.0, fits.1)

pub visit-requires-clause-in_envelope : goal.visit-requires-clause-in_envelope
visit-requires-clause-in_envelope c =
    let t = c.args.self.now.decoder.table.now in
    let m = message c.args.self.now.decoder in
    let same = same_frame c.args.frame (Content c.args.entry c.args.size c.args.count c.args.until) c.requires.left in
    let own = subst (λ (f : Frame). FrameFine t m.bytes f) same c.requires.frame in
    content_inside t c.args.self.now.decoder.fine m c.args.frame c.args.entry c.args.size c.args.count c.args.until (at_of c.args.state.now) own c.requires.state c.requires.some

pub returns-in_err-below-clause-spends : goal.returns-in_err-below-clause-spends
returns-in_err-below-clause-spends c =
    let t = c.args.self.now.decoder.table.now in
    let m = message c.args.self.now.decoder in
    let same = same_frame c.args.frame (Content c.args.entry c.args.size c.args.count c.args.until) c.requires.left in
    let own = subst (λ (f : Frame). FrameFine t m.bytes f) same c.requires.frame in
    spends_some _ _ _ (omega (arith, (not_fewer _ _ _ c.in_err-below.ensures.spends)))
    (let fits = content_room t c.args.self.now.decoder.fine m c.args.frame c.args.entry c.args.size c.args.count c.args.until (at_of c.args.state.now) own
    c.requires.state c.requires.some in let probed = c.in_err-below.ensures.spends.most in let work = fits.2 in omega
    (arith, probed, work))

pub returns-in_err-below-clause-fault_is_true : goal.returns-in_err-below-clause-fault_is_true
returns-in_err-below-clause-fault_is_true c =
    let t = c.args.self.now.decoder.table.now in
    let m = message c.args.self.now.decoder in
    let same = same_frame c.args.frame (Content c.args.entry c.args.size c.args.count c.args.until) c.requires.left in
    let own = subst (λ (f : Frame). FrameFine t m.bytes f) same c.requires.frame in
    passed_on c.from_residual.result c.in_err-below.field-0.0 _ c.from_residual.ensures.1
    (subst (λ (f : Frame). BreaksFrame t m f (at_of c.args.state.now) c.in_err-below.field-0.0) (sym same)
    (content_breaks t c.args.self.now.decoder.fine m c.args.frame c.args.entry c.args.size c.args.count c.args.until (at_of c.args.state.now) own
    c.requires.state c.requires.some c.in_err-below.field-0.0 c.in_err-below.ensures.fault_is_true))

pub overflow_add-rest : goal.overflow_add-rest
overflow_add-rest c =
    let t = c.args.self.now.decoder.table.now in
    let m = message c.args.self.now.decoder in
    let same = same_frame c.args.frame (Content c.args.entry c.args.size c.args.count c.args.until) c.requires.left in
    let own = subst (λ (f : Frame). FrameFine t m.bytes f) same c.requires.frame in
    let fits = content_room t c.args.self.now.decoder.fine m c.args.frame c.args.entry c.args.size c.args.count c.args.until (at_of c.args.state.now) own
    c.requires.state c.requires.some in let size = content_size t c.args.self.now.decoder.fine m c.args.frame c.args.entry
    c.args.size c.args.count c.args.until (at_of c.args.state.now) own c.requires.state c.requires.some in record
    { fits = omega (arith, fits.0, fits.1, size, c.args.self.now.decoder.short) }

pub returns-clause-ok : goal.returns-clause-ok
returns-clause-ok c =
    let t = c.args.self.now.decoder.table.now in
    let m = message c.args.self.now.decoder in
    let same = same_frame c.args.frame (Content c.args.entry c.args.size c.args.count c.args.until) c.requires.left in
    let own = subst (λ (f : Frame). FrameFine t m.bytes f) same c.requires.frame in
    let grows = (not_fewer _ _ _ c.in_ok-below.ensures.spends) in subst (λ (f : Frame). Turns t m f (at_of c.args.state.now) (at_of c.visit.new.state)
    (c.visit.new.state.steps - c.args.state.now.steps) (record {
      below = c.in_ok-below.below;
      rest = Some
          (going_on c.args.frame (Content c.args.entry c.args.size (c.args.count - 1) c.args.until) (c.args.frame.done + c.args.size));
    })) (sym same)
    (content_turns t c.args.self.now.decoder.fine m c.args.frame c.args.entry c.args.size c.args.count c.args.until (at_of c.args.state.now) own
    c.requires.state c.requires.some c.in_ok-below.below (at_of c.visit.new.state)
    (c.visit.new.state.steps - (c.args.state.now.steps + 1)) (c.visit.new.state.steps - c.args.state.now.steps) (omega (arith, grows))
    c.in_ok-below.ensures.ok c.in_ok-below.ensures.fine)

pub returns-clause-spends : goal.returns-clause-spends
returns-clause-spends c =
    let t = c.args.self.now.decoder.table.now in
    let m = message c.args.self.now.decoder in
    let same = same_frame c.args.frame (Content c.args.entry c.args.size c.args.count c.args.until) c.requires.left in
    let own = subst (λ (f : Frame). FrameFine t m.bytes f) same c.requires.frame in
    spends_some _ _ _ (omega (arith, (not_fewer _ _ _ c.in_ok-below.ensures.spends)))
    (let fits = content_room t c.args.self.now.decoder.fine m c.args.frame c.args.entry c.args.size c.args.count c.args.until (at_of c.args.state.now) own
    c.requires.state c.requires.some in let probed = c.in_ok-below.ensures.spends.most in let work = fits.2 in omega
    (arith, probed, work))

pub visit-requires-clause-state : goal.visit-requires-clause-state
visit-requires-clause-state c = c.requires.state

pub returns-in_err-below-clause-ok : goal.returns-in_err-below-clause-ok
returns-in_err-below-clause-ok c = no_ok c.from_residual.result c.in_err-below.field-0.0 _ c.from_residual.ensures.1

pub returns-clause-fault_is_true : goal.returns-clause-fault_is_true
returns-clause-fault_is_true c = tt

pub visit-requires-clause-ready : goal.visit-requires-clause-ready
visit-requires-clause-ready c =
    content_ready c.args.self.now.decoder.table.now (message c.args.self.now.decoder) (at_of c.args.state.now) c.args.self.now.decoder.fine c.args.frame c.args.entry c.args.size c.args.count c.args.until c.requires.left
    c.requires.some c.requires.frame c.requires.state c.requires.ready
