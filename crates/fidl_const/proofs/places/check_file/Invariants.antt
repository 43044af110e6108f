use Rattle.std.proofs.Common.{take}
use Rattle.std.specs.List.{AllByRecursion}
use Rattle.fidl_tree.specs.declared.declaration.Declaration.{Declaration}
use Rattle.fidl_tree.specs.Views.{declared_view}
use Rattle.fidl_consts.specs.Places.{DeclarationHolds}
use Rattle.fidl_const.proofs.places.check_file.Given as goal

-- the declarations so far hold
abbrev pub invariant-loop-declaration : goal.invariant-loop-declaration
invariant-loop-declaration l = AllByRecursion (λ (d : Declaration). DeclarationHolds l.scope.file.named.now l.scope.file.tree.now (declared_view d.body)) (take l.declaration-index l.scope.file.tree.now.declarations.items)
