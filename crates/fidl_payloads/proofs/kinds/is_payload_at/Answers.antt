use Rattle.std.proofs.Common.{sym, true≢false}
use Rattle.fidl_payloads.proofs.Payable.{none_past, payload_there, there_payload}
use Rattle.fidl_payloads.proofs.kinds.is_payload_at.Goals as goal

pub returns-in-None : goal.returns-in-None
returns-in-None c = (
  (λ yes. absurd (true≢false (sym yes))),
  (λ h. absurd (none_past c.args.forms.now c.args.number c.in-None.ensures.lookup.3 h)),
)

pub returns-in-Some : goal.returns-in-Some
returns-in-Some c =
    let look = c.in-Some.ensures.lookup in (
      (λ yes. payload_there c.args.forms.now c.args.number c.in-Some.form.now look.3.0 look.1 (c.is_payload_form.ensures.0 yes)),
      (λ h. c.is_payload_form.ensures.1 (there_payload c.args.forms.now c.args.number c.in-Some.form.now look.3.0 look.1 h)),
    )
