use Rattle.std.proofs.Common.{take}
use Rattle.fidl_named.specs.MemberNumbers.{AreNumbersOf, Match}
use Rattle.fidl_names.proofs.member_numbers.number_file.Given as goal

-- the numbers of the declarations so far
abbrev pub invariant-loop-declaration : goal.invariant-loop-declaration
invariant-loop-declaration l = Match (AreNumbersOf l.file) (take l.declaration-index l.file.declarations.items) l.all.items
