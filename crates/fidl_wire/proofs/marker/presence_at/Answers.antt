use Rattle.std.proofs.Common.{◌∙◌, sym, arith}
use Rattle.fidl_wire.proofs.Stand.{copies_stand, copies_are}
use Rattle.fidl_wire.proofs.marker.presence_at.Goals as goal

pub returns-then-bytes-i : goal.returns-then-bytes-i
returns-then-bytes-i c = (
  (λ h. c.if-bytes-i.true (copies_are c.args.bytes.now 0 c.args.size c.args.place h c.loop-i.i (omega arith) (omega arith) ∙ sym (copies_are c.args.bytes.now 0 c.args.size c.args.place h c.args.place (omega arith) (omega arith)))),
  (λ h. c.if-bytes-i.true (copies_are c.args.bytes.now 255 c.args.size c.args.place h c.loop-i.i (omega arith) (omega arith) ∙ sym (copies_are c.args.bytes.now 255 c.args.size c.args.place h c.args.place (omega arith) (omega arith)))),
)

pub returns-in-0 : goal.returns-in-0
returns-in-0 c = copies_stand c.args.bytes.now 0 c.args.size c.args.place c.requires.room (λ k a b. c.loop-i.invariant k a (omega arith) ∙ c.in-0.is)

pub returns-in-255 : goal.returns-in-255
returns-in-255 c = copies_stand c.args.bytes.now 255 c.args.size c.args.place c.requires.room (λ k a b. c.loop-i.invariant k a (omega arith) ∙ c.in-255.is)
