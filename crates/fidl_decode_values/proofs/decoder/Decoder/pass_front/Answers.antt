use Rattle.fidl_decode_values.specs.Reading.{came, message}
use Rattle.std.proofs.Common.{◌-◌, sym, subst, arith}
use Rattle.std.specs.Prelude.{Some}
use Rattle.fidl_decode_model.specs.declared.frame.Frame.{Frame}
use Rattle.fidl_decode_model.specs.Machine.{FrameFine, Turns, at_of}
use Rattle.fidl_decode_values.specs.Body.{rest_of, envelopes_behind}
use Rattle.fidl_decode_values.specs.Ready.{CanReadFrame}
use Rattle.fidl_decode_columns.proofs.Leaves.{left_over}
use Rattle.fidl_decode_values.proofs.BodyTurns.{body_start, body_behind}
use Rattle.fidl_decode_values.proofs.decoder.Decoder.pass_front.Goals as goal

pub pass_body-requires-clause-body : goal.pass_body-requires-clause-body
pass_body-requires-clause-body c = c.body_of-body.ensures.fine

pub pass_body-requires-clause-frame : goal.pass_body-requires-clause-frame
pass_body-requires-clause-frame c =
    let is = c.body_of-body.ensures in
    let start = body_start c.body_of-body.result c.args.entry c.args.base c.args.count c.args.depth is.entry is.base is.count is.depth in
    subst (λ (g : Frame). FrameFine c.args.self.now.table.now (came c.args.self.now) g) start c.requires.frame

pub pass_body-requires-clause-ready : goal.pass_body-requires-clause-ready
pass_body-requires-clause-ready c =
    let is = c.body_of-body.ensures in
    let start = body_start c.body_of-body.result c.args.entry c.args.base c.args.count c.args.depth is.entry is.base is.count is.depth in
    subst (λ (g : Frame). CanReadFrame c.args.self.now c.args.state.now g) start c.requires.ready

pub returns-clause-turns : goal.returns-clause-turns
returns-clause-turns c =
    let t = c.args.self.now.table.now in
    let m = message c.args.self.now in
    let old = c.args.state.now in
    let new = c.pass_body.new.state in
    let body = c.body_of-body.result in
    let read = c.pass_body.result in
    let is = c.body_of-body.ensures in
    let start = body_start body c.args.entry c.args.base c.args.count c.args.depth is.entry is.base is.count is.depth in
    let behind = body_behind body c.args.entry c.args.base c.args.count c.args.depth read is.entry is.base is.count is.depth in
    let run = subst (λ (g : Frame). Turns t m (rest_of body 0) (at_of old) (at_of new) (new.steps - old.steps) (left_over (Some g))) behind c.pass_body.ensures.turns in
    subst (λ (g : Frame). Turns t m g (at_of old) (at_of new) (new.steps - old.steps) (left_over (Some (envelopes_behind c.args.entry c.args.base c.args.count c.args.depth read)))) (sym start) run

pub returns-clause-few : goal.returns-clause-few
returns-clause-few c = omega (arith, c.pass_body.ensures.few, c.body_of-body.ensures.fine.few, c.body_of-body.ensures.count)
