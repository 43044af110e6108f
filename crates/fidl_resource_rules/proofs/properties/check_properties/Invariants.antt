use Rattle.std.proofs.Common.{take}
use Rattle.std.specs.List.{AllByRecursion}
use Rattle.fidl_resource_rules.specs.Resources.{PropertyHolds}
use Rattle.fidl_resource_rules.proofs.properties.check_properties.Given as goal

-- the properties so far have types that suit
abbrev pub invariant-loop-property : goal.invariant-loop-property
invariant-loop-property l = AllByRecursion (PropertyHolds l.sources.named.now l.file_index l.file) (take l.property-index l.properties)
