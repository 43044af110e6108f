use Rattle.std.proofs.Common.{take}
use Rattle.fidl_named.specs.MemberNumbers.{AreNumbers, Match, written_names}
use Rattle.fidl_named.specs.NameMaps.{seen}
use Rattle.fidl_names.proofs.member_numbers.number_written.Given as goal

-- the numbers of the properties so far
abbrev pub invariant-loop-property : goal.invariant-loop-property
invariant-loop-property l = Match (λ p m. AreNumbers (written_names l.file p) (seen m.entries)) (take l.property-index l.properties) l.all.items
