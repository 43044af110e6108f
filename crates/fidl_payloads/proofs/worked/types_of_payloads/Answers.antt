use Rattle.std.proofs.Common.{◌≡◌, ◌∙◌, false, true, refl, sym, subst}
use Rattle.std.proofs.lemmas.Option.{same_Some}
use Rattle.fidl_declarations.specs.Forms.{Form}
use Rattle.fidl_wire.specs.Term as ty
use Rattle.fidl_lower_types.proofs.OneTerm.{one_term}
use Rattle.fidl_payloads.specs.Kinds.{IsPayloadForm}
use Rattle.fidl_payloads.proofs.worked.types_of_payloads.Goals as goal

pub returns-clause-own : goal.returns-clause-own
returns-clause-own c = λ files n i t form k ms h at is. record { term = h; may_be = record { form = form; at = at; is = subst IsPayloadForm (sym is) (refl, tt) } }

pub returns-clause-other : goal.returns-clause-other
returns-clause-other c = λ files n i j t differ h p.
    let terms : ty.named i ≡ ty.named j = one_term files n t (ty.named i) (ty.named j) h p.term in
    let same : i ≡ j = cc in
    differ same

pub returns-clause-vectors : goal.returns-clause-vectors
returns-clause-vectors c = λ files n i j t h p.
    let terms : ty.vector false j (ty.named i) ≡ ty.named i = one_term files n t (ty.vector false j (ty.named i)) (ty.named i) h p.term in
    absurd (cc)

pub returns-clause-absent : goal.returns-clause-absent
returns-clause-absent c = λ files n i t form k ms h at is p.
    let forms = same_Some p.may_be.form form (sym p.may_be.at ∙ at) in
    let its = subst IsPayloadForm is (subst (λ (f : Form). IsPayloadForm f.kind) forms p.may_be.is) in
    let same : true ≡ false = its.0 in
    absurd (cc)
