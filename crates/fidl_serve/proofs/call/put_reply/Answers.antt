use Rattle.std.proofs.Common.{length, ap, ◌∙◌, arith}
use Rattle.fidl_serve.proofs.Frames.{frame_same, body_same}
use Rattle.fidl_serve.proofs.Ready.{body_read, body_fits}
use Rattle.fidl_serve.proofs.call.put_reply.Goals as goal

pub put_frame-requires-clause-short : goal.put_frame-requires-clause-short
put_frame-requires-clause-short c =
    let f = body_fits c.args.replies.now c.bodies.result.now c.args.place c.index-bodies-place.result c.requires.fit c.bodies.ensures.bodies c.requires.place c.index-bodies-place.is in
    omega (arith, f.bytes, ap length c.deref.ensures.value)

pub put_frame-requires-clause-few : goal.put_frame-requires-clause-few
put_frame-requires-clause-few c =
    let f = body_fits c.args.replies.now c.bodies.result.now c.args.place c.index-bodies-place.result c.requires.fit c.bodies.ensures.bodies c.requires.place c.index-bodies-place.is in
    omega (arith, f.handles, ap length c.deref-2.ensures.value)

pub returns-clause-frame : goal.returns-clause-frame
returns-clause-frame c =
    let b = body_read c.args.replies.now c.bodies.result.now c.args.place c.index-bodies-place.result c.bodies.ensures.bodies c.requires.place c.index-bodies-place.is in
    frame_same _ c.args.txid _ _ _ _ _ _ c.put_frame.ensures.frame c.flexible.ensures c.ordinal.ensures (body_same _ _ _ _ c.deref.ensures.value c.deref-2.ensures.value ∙ b)
