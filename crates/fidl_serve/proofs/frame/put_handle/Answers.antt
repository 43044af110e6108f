use Rattle.std.proofs.Common.{take}
use Rattle.std.specs.Int.{w32, to_le_bytes}
use Rattle.fidl_serve.proofs.Frames.{three}
use Rattle.fidl_serve.proofs.frame.put_handle.Goals as goal

pub returns-clause-front : goal.returns-clause-front
returns-clause-front c =
    let h = c.args.handle.now in
    three (take c.args.place c.args.buffer.now) (to_le_bytes w32 h.id) (to_le_bytes w32 h.object_type) (to_le_bytes w32 h.rights) _ _ _ _ _ _ c.put-place.ensures.front c.to_le_bytes.ensures c.put-place-2.ensures.front c.to_le_bytes-2.ensures c.put.ensures.front c.to_le_bytes-3.ensures
