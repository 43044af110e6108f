use Rattle.std.proofs.Common.{◌∙◌, List, Option, refl, sym, subst, true≢false}
use Rattle.std.specs.Prelude.{IfSome}
use Rattle.fidl_constraints.specs.BehindViews.{use_view}
use Rattle.fidl_declarations.specs.Forms.{Form}
use Rattle.fidl_ir.specs.declared.term.«Type».{«Type»}
use Rattle.fidl_ir.specs.Terms.{term_view}
use Rattle.fidl_lower_types.specs.Terms.{TermIs}
use Rattle.fidl_payloads.specs.Kinds.{IsPayloadAt}
use Rattle.fidl_payloads.proofs.Payable.{named_payload, of_no_name, of_others}
use Rattle.fidl_payloads.proofs.kinds.payload_number.Goals as goal

pub returns-in_default-named_number-clause-none : goal.returns-in_default-named_number-clause-none
returns-in_default-named_number-clause-none c = λ _.
    let fs = c.args.sources.now.named.now in
    let t = use_view c.args.of in
    let e = c.in-Some.term in
    let its : TermIs fs c.args.file_index t (term_view e) = subst (λ (o : Option «Type»). IfSome o (λ x. TermIs fs c.args.file_index t (term_view x))) c.in-Some.is c.in_ok-term.ensures.found in
    of_no_name fs c.args.file_index t (term_view e) its (c.in_default-named_number.ensures.none refl)

pub returns-then-not-is_payload_at-clause-none : goal.returns-then-not-is_payload_at-clause-none
returns-then-not-is_payload_at-clause-none c = λ _.
    let fs = c.args.sources.now.named.now in
    let t = use_view c.args.of in
    let e = c.in-Some.term in
    let n = c.in-Some-named_number.number in
    let its : TermIs fs c.args.file_index t (term_view e) = subst (λ (o : Option «Type»). IfSome o (λ x. TermIs fs c.args.file_index t (term_view x))) c.in-Some.is c.in_ok-term.ensures.found in
    of_others fs c.args.file_index t (term_view e) its n c.in-Some-named_number.ensures.found
    (λ h. true≢false (sym (c.is_payload_at.ensures.1 (subst (λ (l : List Form). IsPayloadAt l n) (sym c.requires.known.forms) h)) ∙ c.if-not-is_payload_at.true))

pub returns-clause-found : goal.returns-clause-found
returns-clause-found c =
    let fs = c.args.sources.now.named.now in
    let t = use_view c.args.of in
    let e = c.in-Some.term in
    let n = c.in-Some-named_number.number in
    let its : TermIs fs c.args.file_index t (term_view e) = subst (λ (o : Option «Type»). IfSome o (λ x. TermIs fs c.args.file_index t (term_view x))) c.in-Some.is c.in_ok-term.ensures.found in
    named_payload fs c.args.file_index t (term_view e) its n c.in-Some-named_number.ensures.found (subst (λ (l : List Form). IsPayloadAt l n) c.requires.known.forms (c.is_payload_at.ensures.0 c.if-not-is_payload_at.false))
