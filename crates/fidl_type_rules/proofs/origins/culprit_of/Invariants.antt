use Rattle.std.proofs.Common.{◌-◌, length}
use Rattle.fidl_type_rules.proofs.Stood.{IsAtFault}
use Rattle.fidl_type_rules.proofs.origins.culprit_of.Given as goal

-- the current type is at fault
abbrev pub invariant-origins : goal.invariant-origins
invariant-origins l = IsAtFault l.sources.named.now l.current

-- a vector has less than 2^64 elements
abbrev pub decreases-origins : goal.decreases-origins
decreases-origins l = 18446744073709551616 - length l.way.items
