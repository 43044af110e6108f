use Rattle.fidl_tree.specs.Views.{declared_view}
use Rattle.fidl_constraints.specs.Behind.{body_target, IsDeclared}
use Rattle.fidl_constraints.proofs.Naming.{seen_found}
use Rattle.fidl_constraints.proofs.targets.declared_target.Goals as goal

pub returns-clause-found : goal.returns-clause-found
returns-clause-found c =
    let d = c.in_ok-found.found.declaration.now in
    seen_found (IsDeclared c.args.named.now c.args.id) c.body_target.result (body_target c.args.id (declared_view d.body)) c.body_target.ensures
    (λ t e. record { file = c.in_ok-found.found.file.now; declaration = d; at = c.in_ok-found.ensures.found; is = e })
