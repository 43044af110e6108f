use Rattle.fidl_serve.proofs.Frames.{composed}
use Rattle.fidl_serve.proofs.frame.put_frame.Goals as goal

pub returns-clause-frame : goal.returns-clause-frame
returns-clause-frame c = composed _ _ _ _ _ _ _ _ _ _ c.put-counts.ensures.front c.to_le_bytes.ensures c.put-counts-2.ensures.front c.to_le_bytes-2.ensures c.put-head.ensures.front c.write.ensures.bytes c.put-end.ensures.front c.put_handles.ensures.front
