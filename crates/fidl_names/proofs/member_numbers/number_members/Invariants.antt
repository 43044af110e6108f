use Rattle.std.proofs.Common.{take}
use Rattle.fidl_named.specs.Constraints.{texts_of}
use Rattle.fidl_named.specs.MemberNumbers.{AreNumbers}
use Rattle.fidl_named.specs.NameMaps.{seen}
use Rattle.fidl_names.proofs.member_numbers.number_members.Given as goal

-- the numbers of the members so far
abbrev pub invariant-loop-number : goal.invariant-loop-number
invariant-loop-number l = AreNumbers (take l.number (texts_of l.file l.members)) (seen l.numbers.entries)
