use Rattle.fidl_script.proofs.Passing.{if_none}
use Rattle.fidl_script.proofs.Looking.{means, none_means, one_way_means}
use Rattle.fidl_script.proofs.methods.Methods.named.Goals as goal

pub returns-in_err-place-clause-none : goal.returns-in_err-place-clause-none
returns-in_err-place-clause-none c = if_none _ _ c.from_residual.ensures (none_means c.args.self.now c.args.name.now c.in_err-place.ensures.none)

pub returns-in_err-method-clause-none : goal.returns-in_err-method-clause-none
returns-in_err-method-clause-none c =
    if_none _ _ c.from_residual-in_err-method.ensures (one_way_means c.args.self.now c.args.name.now c.in_ok-place.place c.in_ok-place.ensures.found c.in_err-method.ensures.none)

pub returns-clause-means : goal.returns-clause-means
returns-clause-means c = means c.args.self.now c.args.name.now c.in_ok-place.place c.in_ok-place.ensures.found c.in_ok-method.ensures.two_way
