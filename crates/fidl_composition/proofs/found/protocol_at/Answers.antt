use Rattle.std.proofs.Common.{refl}
use Rattle.fidl_composition.proofs.found.protocol_at.Goals as goal

pub returns-in_err-found-clause-none : goal.returns-in_err-found-clause-none
returns-in_err-found-clause-none c = λ _ h. c.in_err-found.ensures.none refl h.1.file h.1.is.declaration h.1.is.at

pub returns-in-Protocol-clause-found : goal.returns-in-Protocol-clause-found
returns-in-Protocol-clause-found c = record { file = c.in_ok-found.found.file.now; declaration = c.in_ok-found.found.declaration.now; at = c.in_ok-found.ensures.found; body = c.in-Protocol.is }
