use Rattle.std.proofs.Common.{◌≡◌, true, Option, refl, sym, subst}
use Rattle.fidl_tree.specs.Syntax.{TypeUse}
use Rattle.fidl_declarations.specs.Sites.{has_result}
use Rattle.fidl_payloads.specs.declared.payload.Payload.TheVariants as payload
use Rattle.fidl_payloads.specs.Results.{IsResultNumber}
use Rattle.fidl_payloads.specs.Payloads.{result_path, AnswerIs}
use Rattle.fidl_payloads.proofs.worked.responses_with_results.Goals as goal

pub returns-clause-flexible : goal.returns-clause-flexible
returns-clause-flexible c = λ files n i p m r h. (i, h, refl)

pub returns-clause-error : goal.returns-clause-error
returns-clause-error c = λ files n i p m t r is h. subst (λ (e : Option TypeUse). AnswerIs files n (result_path p m) r.payload (has_result true e) (payload.«Type» i)) (sym is) (i, h, refl)

pub returns-clause-no_part : goal.returns-clause-no_part
returns-clause-no_part c = λ files n i p m r not h.
    let is : payload.«Type» i ≡ payload.«Type» h.0 = h.2 in
    let same : h.0 ≡ i = cc in
    not (subst (IsResultNumber files n (result_path p m)) same h.1)

pub returns-clause-not_empty : goal.returns-clause-not_empty
returns-clause-not_empty c = λ files n p m r h. let is : payload.Empty ≡ payload.«Type» h.0 = h.2 in absurd (cc)
