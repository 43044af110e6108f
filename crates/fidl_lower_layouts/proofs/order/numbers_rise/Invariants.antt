use Rattle.std.proofs.Common.{ℤ, ◌<ℤ◌}
use Rattle.std.specs.List.{AllAdjacentBelow}
use Rattle.fidl_lower_layouts.proofs.order.numbers_rise.Given as goal

-- the numbers so far rise
abbrev pub invariant-loop-place : goal.invariant-loop-place
invariant-loop-place l = AllAdjacentBelow (λ (y z : ℤ). y <ℤ z) l.numbers l.place
