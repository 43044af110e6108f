use Rattle.std.proofs.Common.{not, ap, eq-eqb, arith}
use Rattle.fidl_hints.proofs.Ends.{behind_is}
use Rattle.fidl_hints.proofs.last.behind_last.Goals as goal
use Rattle.fidl_hints.proofs.last.behind_last.Goals.{then-loop-from-test+else-bytes-from, else-loop-from-test}

pub returns : goal.returns
returns c = behind_is c.args.byte c.args.bytes.now c.loop-from.from c.loop-from.invariant
    (elim c.loop-from-test.branch [
      | then-loop-from-test+else-bytes-from w ↦ (λ lt. ap not (eq-eqb _ c.args.byte w.if-bytes-from.false))
      | else-loop-from-test w ↦ (λ lt. let none = w.loop-from-test.false in absurd (omega (arith, lt, none)))
    ])
