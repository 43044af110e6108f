use Rattle.std.proofs.Common.{map, take}
use Rattle.fidl_ir.specs.Terms.{term_view}
use Rattle.fidl_reachable_types.specs.Growing.{GrowsBy}
use Rattle.fidl_reachable_types.proofs.list.TypeList.add_rows.Given as goal

-- the types of the members so far are in the list
abbrev pub invariant-loop-row : goal.invariant-loop-row
invariant-loop-row l = GrowsBy l.fn.self l.self (map (λ r. term_view r.of) (take l.row-index l.rows))
