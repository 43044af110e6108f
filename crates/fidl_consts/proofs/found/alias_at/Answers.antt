use Rattle.fidl_consts.proofs.found.alias_at.Goals as goal

pub returns-in-Alias-clause-found : goal.returns-in-Alias-clause-found
returns-in-Alias-clause-found c =
    let there = c.in_ok-found.ensures.found in
    record { declaration = c.in_ok-found.found.declaration.now; file_at = there.file_at; stands = there.stands; body = c.in-Alias.is }
