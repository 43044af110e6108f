use Rattle.std.proofs.Common.{take}
use Rattle.std.specs.List.{AllByRecursion}
use Rattle.fidl_named.specs.declared.meaning.Meaning.{Meaning}
use Rattle.fidl_named.specs.declared.meaning.Wanted.TheVariants as wanted
use Rattle.fidl_named.specs.Meanings.{Means}
use Rattle.fidl_named.specs.Paths.{texts}
use Rattle.fidl_named.specs.ReferenceViews.{paths_view}
use Rattle.fidl_names.proofs.constraint_names.check_value.Given as goal

-- the paths so far mean something
abbrev pub invariant-loop-path : goal.invariant-loop-path
invariant-loop-path l =
    AllByRecursion (λ p. (m : Meaning) × Means l.scope.named.now l.scope.file.now wanted.Value (texts l.scope.file.now.src.now p) m)
    (take l.path-index (paths_view l.path-items))
