use Rattle.std.proofs.Common.{take}
use Rattle.std.specs.List.{AllByRecursion}
use Rattle.fidl_wire.specs.Typed.{IsHandle}
use Rattle.fidl_encode.proofs.unknown.are_handles.Given as goal

abbrev pub invariant-loop-handle : goal.invariant-loop-handle
invariant-loop-handle l = AllByRecursion IsHandle (take l.handle-index l.handles)
