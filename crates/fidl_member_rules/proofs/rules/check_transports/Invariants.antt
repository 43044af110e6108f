use Rattle.std.proofs.Common.{take}
use Rattle.std.specs.List.{AllByRecursion}
use Rattle.fidl_tree.specs.Views.{file_view}
use Rattle.fidl_member_rules.specs.Rules.{TransportHolds}
use Rattle.fidl_member_rules.proofs.rules.check_transports.Given as goal

-- the declarations so far have no other transport
abbrev pub invariant-loop-declaration : goal.invariant-loop-declaration
invariant-loop-declaration l = AllByRecursion (TransportHolds l.file.src.now) (take l.declaration-index (file_view l.file).declarations)
