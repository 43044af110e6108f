use Rattle.std.proofs.Common.{arith, false}
use Rattle.fidl_wire.specs.Text.{handles_text}
use Rattle.fidl_streams.proofs.Taking.{takes_then, so_far_none, so_far_more, so_far_first, so_far_second, so_far_all, failed_as}
use Rattle.fidl_notation.proofs.RawText.{handles_more, handles_end}
use Rattle.fidl_notation.proofs.unknown.write_handles.Goals as goal

pub loop-handle-init : goal.loop-handle-init
loop-handle-init g c = so_far_none _ (handles_text false c.args.handles.now)

pub returns-in_err-write_comma : goal.returns-in_err-write_comma
returns-in_err-write_comma g c =
    failed_as _ _ _ c.from_residual.result c.from_residual.ensures.0
    (so_far_first _ _ _ _ _ _ _ _ c.loop-handle.invariant c.in_err-write_comma.ensures (handles_more c.loop-handle.later c.args.handles.now c.loop-handle.handle-index (record { id = 0; object_type = 0; rights = 0 }) c.loop-handle-test.true))

pub returns-in_err-write_handle : goal.returns-in_err-write_handle
returns-in_err-write_handle g c =
    failed_as _ _ _ c.from_residual-in_err-write_handle.result c.from_residual-in_err-write_handle.ensures.0
    (so_far_second _ _ _ _ _ _ _ _ _ c.loop-handle.invariant c.in_ok-write_comma.ensures c.in_err-write_handle.ensures (handles_more c.loop-handle.later c.args.handles.now c.loop-handle.handle-index _ c.loop-handle-test.true))

pub loop-handle-preserved : goal.loop-handle-preserved
loop-handle-preserved g c =
    so_far_more _ _ _ _ _ _ _ c.loop-handle.invariant (takes_then _ _ _ _ _ c.in_ok-write_comma.ensures c.in_ok-write_handle.ensures) (handles_more c.loop-handle.later c.args.handles.now c.loop-handle.handle-index _ c.loop-handle-test.true)

pub returns : goal.returns
returns g c =
    so_far_all _ _ _ _ c.loop-handle.invariant (handles_end c.loop-handle.later c.args.handles.now c.loop-handle.handle-index (omega (arith, c.loop-handle-test.false)))
