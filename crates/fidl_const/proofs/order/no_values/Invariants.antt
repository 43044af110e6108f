use Rattle.std.proofs.Common.{◌≡◌, None, replicate}
use Rattle.fidl_const.proofs.order.no_values.Given as goal

-- nothing so far
abbrev pub invariant-loop : goal.invariant-loop
invariant-loop l = l.values.items ≡ replicate l.counter None
