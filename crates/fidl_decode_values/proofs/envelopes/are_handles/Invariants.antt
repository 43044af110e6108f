use Rattle.std.proofs.Common.{◌≡◌, ◌<◌, ◌≤◌, ℕ, Some}
use Rattle.std.specs.Prelude.{slice_get}
use Rattle.fidl_wire.specs.declared.handle.HandleInfo.{HandleInfo}
use Rattle.fidl_wire.specs.Typed.{IsHandle}
use Rattle.fidl_decode_values.proofs.envelopes.are_handles.Given as goal

-- those before this one are handles
abbrev pub invariant-loop-i : goal.invariant-loop-i
invariant-loop-i l = (k : ℕ) (h : HandleInfo) → l.from ≤ k → k < l.i → slice_get l.handles k ≡ Some h → IsHandle h
