use Rattle.std.proofs.Common.{◌≡◌, take, map, false}
use Rattle.std.specs.List.{list_any}
use Rattle.fidl_command_line.specs.Arguments.{is_one_path}
use Rattle.fidl_command_line.proofs.arguments.is_among.Given as goal

-- none of the names so far has the path
abbrev pub invariant-loop-other : goal.invariant-loop-other
invariant-loop-other l = list_any (is_one_path l.fn.name) (take l.other-index (map (λ n. n.now) l.names)) ≡ false
