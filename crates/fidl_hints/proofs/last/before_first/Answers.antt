use Rattle.std.proofs.Common.{not, ap, eq-eqb, arith}
use Rattle.fidl_hints.proofs.Ends.{front_is}
use Rattle.fidl_hints.proofs.last.before_first.Goals as goal
use Rattle.fidl_hints.proofs.last.before_first.Goals.{then-loop-to-test+else-bytes-to, else-loop-to-test}

pub returns : goal.returns
returns c = front_is c.args.byte c.args.bytes.now c.loop-to.to c.loop-to.invariant
    (elim c.loop-to-test.branch [
      | then-loop-to-test+else-bytes-to w ↦ (λ lt. ap not (eq-eqb _ c.args.byte w.if-bytes-to.false))
      | else-loop-to-test w ↦ (λ lt. let none = w.loop-to-test.false in absurd (omega (arith, lt, none)))
    ])
