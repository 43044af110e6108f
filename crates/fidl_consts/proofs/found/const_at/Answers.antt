use Rattle.fidl_consts.proofs.found.const_at.Goals as goal

pub returns-in-Const-clause-found : goal.returns-in-Const-clause-found
returns-in-Const-clause-found c = record { declaration = c.in_ok-found.found.declaration.now; at = c.in_ok-found.ensures.found; body = c.in-Const.is }
