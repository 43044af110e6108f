use Rattle.std.proofs.Common.{take}
use Rattle.fidl_named.specs.Constraints.{property_names}
use Rattle.fidl_named.specs.MemberNumbers.{AreNumbers}
use Rattle.fidl_named.specs.NameMaps.{seen}
use Rattle.fidl_names.proofs.member_numbers.number_properties.Given as goal

-- the numbers of the properties so far
abbrev pub invariant-loop-number : goal.invariant-loop-number
invariant-loop-number l = AreNumbers (take l.number (property_names l.file l.properties)) (seen l.numbers.entries)
