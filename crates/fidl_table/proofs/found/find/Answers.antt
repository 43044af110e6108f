use Rattle.std.proofs.Common.{refl}
use Rattle.fidl_table.proofs.Finding.{found}
use Rattle.fidl_table.proofs.found.find.Goals as goal

pub returns-in_err-found-clause-none : goal.returns-in_err-found-clause-none
returns-in_err-found-clause-none c = λ _ h. c.in_err-found.ensures.none refl h.1.file h.1.is.declaration h.1.is.at

pub returns-in-Protocol-clause-found : goal.returns-in-Protocol-clause-found
returns-in-Protocol-clause-found c = found c.args.named.now c.args.id _ c.in_ok-found.found.declaration.now c.in_ok-found.ensures.found c.in-Protocol.is
