-- Which types may be payloads, as the code finds it.
use Rattle.std.proofs.Common.{◌≡◌, ◌<◌, ◌≤◌, ℕ, List, length, get_or, sym, subst, ◌∙◌, arith}
use Rattle.std.proofs.lemmas.Option.{same_Some, slice_get_within}
use Rattle.std.proofs.Math.ListN.{length-map}
use Rattle.fidl_tree.specs.Syntax.{TypeUse}
use Rattle.fidl_tree.specs.declared.file.File.{File}
use Rattle.fidl_declarations.specs.declared.form.Form.{Form as CodeForm}
use Rattle.fidl_declarations.specs.Forms.{Form}
use Rattle.fidl_declarations.specs.FormViews.{form_kind_view, form_view, forms_view}
use Rattle.fidl_wire.specs.Term as ty
use Rattle.fidl_wire.specs.Term.{Term}
use Rattle.fidl_lower_types.specs.Numbers.{all_forms}
use Rattle.fidl_lower_types.specs.Terms.{TermIs}
use Rattle.fidl_lower_types.proofs.OneTerm.{one_term}
use Rattle.fidl_payloads.specs.Kinds.{IsPayloadForm, IsPayloadAt, IsPayload}
use Rattle.fidl_payloads.proofs.Finding.{form_there}

module _ (forms : List CodeForm) (i : ℕ) where
  pub none_past : length forms ≤ i → IsPayloadAt (forms_view forms) i → ⊥
  none_past past h =
      let within = slice_get_within (forms_view forms) i h.form h.at in
      omega (arith, within, past, length-map forms form_view)

  module _ (form : CodeForm) (lt : i < length forms) (is : form ≡ get_or forms i form) where
    pub payload_there : IsPayloadForm (form_kind_view form.kind) → IsPayloadAt (forms_view forms) i
    payload_there h = record { form = form_view form; at = form_there forms i form lt is; is = h }

    pub there_payload : IsPayloadAt (forms_view forms) i → IsPayloadForm (form_kind_view form.kind)
    there_payload h = subst (λ (f : Form). IsPayloadForm f.kind) (same_Some h.form (form_view form) (sym h.at ∙ form_there forms i form lt is)) h.is

-- a type with a term
module _ (files : List File) (number : ℕ) (t : TypeUse) (e : Term) (its : TermIs files number t e) where
  pub named_payload : (n : ℕ) → e ≡ ty.named n → IsPayloadAt (all_forms files) n → IsPayload files number t n
  named_payload n is at = record { term = subst (TermIs files number t) is its; may_be = at }

  pub of_no_name : ((i : ℕ) → e ≡ ty.named i → ⊥) → (i : ℕ) → IsPayload files number t i → ⊥
  of_no_name none i h = none i (one_term files number t e (ty.named i) its h.term)

  pub of_others : (n : ℕ) → e ≡ ty.named n → (IsPayloadAt (all_forms files) n → ⊥) → (i : ℕ) → IsPayload files number t i → ⊥
  of_others n is not i h =
      let terms : ty.named n ≡ ty.named i = sym is ∙ one_term files number t e (ty.named i) its h.term in
      let same : n ≡ i = cc in
      not (subst (IsPayloadAt (all_forms files)) (sym same) h.may_be)
