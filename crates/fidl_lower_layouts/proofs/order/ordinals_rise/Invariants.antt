use Rattle.std.proofs.Common.{◌<◌}
use Rattle.std.specs.List.{AllAdjacentBelow}
use Rattle.fidl_ir.specs.declared.term.Row.{Row}
use Rattle.fidl_lower_layouts.proofs.order.ordinals_rise.Given as goal

-- the ordinals so far rise
abbrev pub invariant-loop-place : goal.invariant-loop-place
invariant-loop-place l = AllAdjacentBelow (λ (r s : Row). r.ordinal < s.ordinal) l.rows l.place
