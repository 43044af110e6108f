use Rattle.std.proofs.Common.{refl}
use Rattle.fidl_named.proofs.named.Named.property.Goals as goal

pub returns-in_err-found-clause-none : goal.returns-in_err-found-clause-none
returns-in_err-found-clause-none c = λ none p n h. c.in_err-found.ensures.none refl p h.file n h.member h.is_for

pub returns-clause-found : goal.returns-clause-found
returns-clause-found c =
    let x = c.in_ok-found.found in
    record { file = x.file.now; member = x.property.now; is_for = c.in_ok-found.ensures.found }
