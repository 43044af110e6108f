use Rattle.std.proofs.Common.{◌+◌, ◌-◌, arith}
use Rattle.fidl_decode_model.specs.Machine.{at_of}
use Rattle.fidl_decode_values.specs.Reading.{message}
use Rattle.fidl_decode_values.proofs.BodyTurns.{envelope_passed_absent, envelope_passed}
use Rattle.fidl_decode_members.proofs.members.Members.pass_next.Goals as goal

pub returns-then-is_absent-clause-passed : goal.returns-then-is_absent-clause-passed
returns-then-is_absent-clause-passed c =
    λ so.
    let d = c.args.decoder.now in
    let e = c.args.envelopes.now in
    envelope_passed_absent d.table.now d.fine (message d) (d.short, c.requires.state.few) c.args.self.now.entry e.base e.count e.depth c.args.read
    (at_of c.args.state.now) c.requires.frame c.requires.state c.requires.more (c.is_absent.ensures.0 c.if-is_absent.true) _ (omega arith)

pub pass-requires-clause-entry : goal.pass-requires-clause-entry
pass-requires-clause-entry c = (c.requires.members.each c.args.read c.requires.known).entry

pub pass-requires-clause-passage : goal.pass-requires-clause-passage
pass-requires-clause-passage c = (c.requires.members.each c.args.read c.requires.known).passage

pub returns-clause-passed : goal.returns-clause-passed
returns-clause-passed c =
    λ so.
    let d = c.args.decoder.now in
    let e = c.args.envelopes.now in
    let old = c.args.state.now in
    let new = c.pass.new.state in
    let known = c.requires.members.each c.args.read c.requires.known in
    envelope_passed d.table.now d.fine (message d) (d.short, c.requires.state.few) c.args.self.now.entry e.base e.count e.depth c.args.read
    (at_of old) c.requires.frame c.requires.state c.requires.more _ known.found (at_of new) (new.steps - old.steps) (new.steps + 1 - old.steps)
    (omega (arith, c.pass.ensures.grows)) (omega arith) (omega (arith, c.pass.ensures.pays, c.pass.ensures.grows)) (c.pass.ensures.passed so)
