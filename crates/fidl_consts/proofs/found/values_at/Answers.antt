use Rattle.std.proofs.Common.{sym}
use Rattle.fidl_consts.proofs.found.values_at.Goals as goal

pub returns-clause-found : goal.returns-clause-found
returns-clause-found c = record { declaration = c.in_ok-found.found.declaration.now; at = c.in_ok-found.ensures.found; is = sym c.in_ok-layout.ensures }
