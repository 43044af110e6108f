use Rattle.std.proofs.Common.{◌≡◌, None, Some, refl}
use Rattle.fidl_payloads.specs.declared.payload.Payload.TheVariants as payload
use Rattle.fidl_payloads.specs.Payloads.{result_path}
use Rattle.fidl_payloads.proofs.Small.{strict_answers, strict_part}
use Rattle.fidl_payloads.proofs.worked.responses_without_results.Goals as goal

pub returns-clause-written : goal.returns-clause-written
returns-clause-written c = λ files n i p m a t r is none h. strict_answers files n (result_path p m) r none (Some t) (payload.«Type» i) is (i, h, refl)

pub returns-clause-empty : goal.returns-clause-empty
returns-clause-empty c = λ files n p m r is none. strict_answers files n (result_path p m) r none None payload.Empty is refl

pub returns-clause-no_result : goal.returns-clause-no_result
returns-clause-no_result c = λ files n i p m r is none h.
    let same : payload.«Type» i ≡ payload.Empty = strict_part files n (result_path p m) r none None (payload.«Type» i) is h in
    absurd (cc)
