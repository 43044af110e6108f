use Rattle.std.proofs.Common.{◌<◌, ◌-◌, length}
use Rattle.fidl_type_rules.specs.Standing.{Stands}
use Rattle.fidl_type_rules.proofs.origins.failing.Given as goal

-- the current type stands in the files
abbrev pub invariant-elements : goal.invariant-elements
invariant-elements l = record {
  within : l.current.file_index < length l.sources.named.now;
  stands : Stands l.sources.named.now l.current;
}

-- a vector has less than 2^64 elements
abbrev pub decreases-elements : goal.decreases-elements
decreases-elements l = 18446744073709551616 - length l.way.items
