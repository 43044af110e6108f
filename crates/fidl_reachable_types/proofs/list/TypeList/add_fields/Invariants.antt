use Rattle.std.proofs.Common.{map, take}
use Rattle.fidl_ir.specs.Terms.{term_view}
use Rattle.fidl_reachable_types.specs.Growing.{GrowsBy}
use Rattle.fidl_reachable_types.proofs.list.TypeList.add_fields.Given as goal

-- the types of the members so far are in the list
abbrev pub invariant-loop-field : goal.invariant-loop-field
invariant-loop-field l = GrowsBy l.fn.self l.self (map (λ f. term_view f.of) (take l.field-index l.fields))
