use Rattle.std.proofs.Common.{◌≡◌, ◌+◌, ◌*◌, ◌++◌, take}
use Rattle.std.specs.List.{flat_map}
use Rattle.fidl_serve.specs.Replying.{handle_bytes}
use Rattle.fidl_serve.proofs.frame.put_handles.Given as goal

-- the handles so far are written
abbrev pub invariant-loop-handle : goal.invariant-loop-handle
invariant-loop-handle l = record {
  end : l.end ≡ l.place + 12 * l.handle-index;
  front : take l.end l.buffer ≡ take l.place l.fn.buffer ++ flat_map handle_bytes (take l.handle-index l.handles);
}
