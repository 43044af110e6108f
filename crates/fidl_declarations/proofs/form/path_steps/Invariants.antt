use Rattle.std.proofs.Common.{◌≡◌, ◌++◌, drop, map}
use Rattle.fidl_tree.specs.Views.{path_view}
use Rattle.fidl_tree.specs.declared.path.PathPart.{PathPart}
use Rattle.fidl_declarations.specs.declared.step.Step.TheVariants.{Name}
use Rattle.fidl_declarations.proofs.form.path_steps.Given as goal

-- the steps so far and those of the parts to come are all
abbrev pub invariant-loop-part : goal.invariant-loop-part
invariant-loop-part l =
    l.steps.items ++ map Name (map (λ (p : PathPart). p.name) (drop l.part-index l.path.rest.items))
    ≡ map Name (path_view l.path)
