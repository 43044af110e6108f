use Rattle.std.proofs.Common.{arith}
use Rattle.fidl_decode_model.proofs.Stand.{zeros_stand}
use Rattle.fidl_decode_columns.proofs.zeros.first_not_zero.Goals as goal

pub returns-then-bytes-i-ne0-clause-zeros : goal.returns-then-bytes-i-ne0-clause-zeros
returns-then-bytes-i-ne0-clause-zeros c = zeros_stand c.args.bytes.now c.args.from c.loop-i.i (omega arith) (omega arith) (λ k a b. c.loop-i.invariant k a b)

pub returns-clause-zeros : goal.returns-clause-zeros
returns-clause-zeros c = zeros_stand c.args.bytes.now c.args.from c.args.to c.requires.order c.requires.room (λ k a b. c.loop-i.invariant k a (omega arith))
