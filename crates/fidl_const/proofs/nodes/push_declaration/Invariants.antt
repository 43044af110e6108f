use Rattle.std.proofs.Common.{◌≡◌, ◌++◌}
use Rattle.fidl_const.specs.Columns.{nodes_of}
use Rattle.fidl_const.proofs.nodes.push_declaration.Given as goal

-- the declaration and its members so far
abbrev pub invariant-loop-number : goal.invariant-loop-number
invariant-loop-number l = l.nodes.items ≡ l.fn.nodes.items ++ nodes_of l.of l.number
