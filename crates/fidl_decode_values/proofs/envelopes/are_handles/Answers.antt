use Rattle.std.proofs.Common.{arith}
use Rattle.fidl_decode_values.proofs.Skipped.{one_more}
use Rattle.fidl_decode_values.proofs.envelopes.are_handles.Goals as goal

pub loop-i-init : goal.loop-i-init
loop-i-init c = λ k h a b e. absurd (omega arith)

pub loop-i-preserved : goal.loop-i-preserved
loop-i-preserved c = one_more c.args.handles.now c.args.from c.loop-i.i (omega arith) c.is_handle.ensures (λ k h a b e. c.loop-i.invariant k h a b e)

pub returns : goal.returns
returns c = λ k h a b e. c.loop-i.invariant k h a (omega arith) e
