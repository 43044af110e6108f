use Rattle.std.proofs.Common.{take}
use Rattle.fidl_names.specs.AliasGraph.{AreTargets}
use Rattle.fidl_names.specs.OuterViews.{read_types}
use Rattle.fidl_names.proofs.alias_graph.targets.Given as goal

-- the numbers of what the types so far mean
abbrev pub invariant-loop-outer : goal.invariant-loop-outer
invariant-loop-outer l = AreTargets l.scope.names.set.now l.scope.file.now l.numbers.starts.items (take l.outer-index (read_types l.outer-items)) l.found.items
