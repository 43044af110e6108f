use Rattle.fidl_decode_values.specs.Reading.{message}
use Rattle.std.specs.Prelude.{Some}
use Rattle.fidl_decode_columns.proofs.Leaves.{left_over}
use Rattle.std.proofs.Common.{◌+◌, ◌-◌, arith, refl, subst, sym}
use Rattle.fidl_decode_values.specs.Body.{rest_of}
use Rattle.fidl_decode_model.specs.Machine.{Turns, at_of}
use Rattle.fidl_decode_values.proofs.BodyTurns.{next_absent}
use Rattle.fidl_decode_values.proofs.ReadyBelow.{slot_ready}
use Rattle.fidl_decode_values.proofs.decoder.Decoder.pass_some.Goals as goal

pub is_absent-requires-clause-free : goal.is_absent-requires-clause-free
is_absent-requires-clause-free c =
    let few = c.requires.body.few in
    let more = c.requires.more in
    let body = c.args.body.now in
    (slot_ready c.args.self.now.table.now (message c.args.self.now) (at_of c.args.state.now) (rest_of body c.args.from.read) body.entry c.args.from.read (body.count - c.args.from.read) refl (omega (arith, few, more)) c.requires.frame c.requires.ready).1.free

pub returns-then-is_absent-clause-turns : goal.returns-then-is_absent-clause-turns
returns-then-is_absent-clause-turns c =
    let few = c.requires.body.few in
    let more = c.requires.more in
    let t = c.args.self.now.table.now in
    let m = message c.args.self.now in
    let f = rest_of c.args.body.now c.args.from.read in
    let old = c.args.state.now in
    subst (λ r. Turns t m f (at_of old) (at_of old) (old.steps + (r - c.args.from.read) - old.steps) (left_over (Some (rest_of c.args.body.now r)))) (sym c.behind.ensures.read)
    (next_absent t c.args.self.now.fine m (c.args.self.now.short, c.requires.state.few) c.args.body.now c.args.from.read
    (at_of old) c.requires.frame c.requires.state (omega (arith, few, more)) (c.is_absent.ensures.0 c.if-is_absent.true) _ (omega arith))

pub returns-then-is_absent-clause-order : goal.returns-then-is_absent-clause-order
returns-then-is_absent-clause-order c = omega (arith, c.behind.ensures.read)
