use Rattle.std.proofs.Common.{◌≡◌, length, take}
use Rattle.fidl_limits.specs.declared.limits.TheConstants.{MAX_MESSAGE_HANDLES}
use Rattle.fidl_requests.specs.Frame.{handles_from}
use Rattle.fidl_requests.proofs.frame.read_handles.Given as goal

-- the handles so far stand at the front of the room
abbrev pub invariant-loop-place : goal.invariant-loop-place
invariant-loop-place l = record {
  front : take l.place l.room ≡ handles_from l.place l.bytes;
  room : length l.room ≡ MAX_MESSAGE_HANDLES;
}
