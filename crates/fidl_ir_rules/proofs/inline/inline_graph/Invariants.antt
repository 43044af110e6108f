use Rattle.std.proofs.Common.{◌≡◌, ◌++◌, drop, map, length, nat_lt}
use Rattle.std.specs.Prelude.{filter}
use Rattle.fidl_cycles.specs.Cycles.{points_of}
use Rattle.fidl_ir.specs.Terms.{definitions_view}
use Rattle.fidl_ir_rules.specs.Inline.{inline_names}
use Rattle.fidl_ir_rules.proofs.inline.inline_graph.Given as goal

-- the points so far and those to come are all
abbrev pub invariant-loop-definition : goal.invariant-loop-definition
invariant-loop-definition l = points_of l.graph.items ++ map (λ d. filter (λ i. nat_lt i (length l.definitions)) (inline_names d)) (definitions_view (drop l.definition-index l.definitions)) ≡ map (λ d. filter (λ i. nat_lt i (length l.definitions)) (inline_names d)) (definitions_view l.definitions)
