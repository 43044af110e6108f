use Rattle.std.proofs.Common.{◌≡◌, ◌++◌, map, drop}
use Rattle.fidl_tree.specs.Syntax.{operands_of}
use Rattle.fidl_tree.specs.Views.{or_operand_view}
use Rattle.fidl_named.specs.Places.{operands_paths}
use Rattle.fidl_named.specs.ReferenceViews.{paths_view}
use Rattle.fidl_named.proofs.paths.+paths.Given as goal

-- the paths so far and those of the or_operands to come are all paths
abbrev pub invariant-push_or_operands-loop-or_operand : goal.invariant-push_or_operands-loop-or_operand
invariant-push_or_operands-loop-or_operand l =
    paths_view l.paths.items ++ operands_paths (operands_of (map or_operand_view (drop l.or_operand-index l.or_operands)))
    ≡ paths_view l.fn.paths.items ++ operands_paths (operands_of (map or_operand_view l.or_operands))
