use Rattle.std.proofs.Common.{subst}
use Rattle.std.proofs.lemmas.List.{take_all}
use Rattle.std.specs.List.{AllByRecursion}
use Rattle.fidl_wire.specs.Typed.{IsHandle}
use Rattle.fidl_encode.proofs.Enveloped.{all_more}
use Rattle.fidl_encode.proofs.unknown.are_handles.Goals as goal

pub loop-handle-preserved : goal.loop-handle-preserved
loop-handle-preserved c = all_more c.args.handles.now c.loop-handle.handle-index _ c.loop-handle-test.true c.loop-handle.invariant c.is_handle.ensures

pub returns : goal.returns
returns c = subst (λ l. AllByRecursion IsHandle l) (take_all c.loop-handle.handle-index c.args.handles.now c.loop-handle-test.false) c.loop-handle.invariant
