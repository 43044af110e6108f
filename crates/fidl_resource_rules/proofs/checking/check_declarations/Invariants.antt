use Rattle.std.proofs.Common.{take}
use Rattle.std.specs.List.{AllByRecursion}
use Rattle.fidl_resource_rules.specs.Resources.{DeclarationHolds}
use Rattle.fidl_resource_rules.proofs.checking.check_declarations.Given as goal

-- the declarations so far are proper
abbrev pub invariant-loop-declaration : goal.invariant-loop-declaration
invariant-loop-declaration l = AllByRecursion (DeclarationHolds l.sources.named.now l.file_index l.file) (take l.declaration-index l.declarations)
