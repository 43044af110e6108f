use Rattle.std.proofs.Common.{map, take}
use Rattle.std.specs.List.{AllZip}
use Rattle.fidl_command_line.specs.Handles.{IsHandleText}
use Rattle.fidl_command_line.proofs.arguments.read_handles.Given as goal

-- the texts so far are those of the handles
abbrev pub invariant-loop-text : goal.invariant-loop-text
invariant-loop-text l = AllZip IsHandleText (map (λ text. text.now) (take l.text-index l.fn.texts)) l.handles.items
