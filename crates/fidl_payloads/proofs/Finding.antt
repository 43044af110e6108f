-- The number of a result, as the code finds it.
use Rattle.std.proofs.Common.{◌≡◌, ◌<◌, ◌≤◌, ◌+◌, ◌^◌, ℕ, zero, suc, false, List, Some, length, get_or, refl, ap, sym, subst, ◌∙◌, inl, inr, arith}
use Rattle.std.specs.Prelude.{slice_get}
use Rattle.std.specs.List.{Contains}
use Rattle.std.proofs.lemmas.Bool.{cases_lt}
use Rattle.std.proofs.lemmas.Option.{same_Some, slice_get_within, slice_get-get_or}
use Rattle.std.proofs.Math.ListN.{get_or-map, length-map}
use Rattle.fidl_declarations.specs.declared.step.Step.{Step}
use Rattle.fidl_declarations.specs.declared.form.Form.{Form as CodeForm}
use Rattle.fidl_span.specs.declared.words.Span.{Span}
use Rattle.fidl_declarations.specs.Forms.{Form, FormKind, layout_form, result_form, empty_response_form}
use Rattle.fidl_declarations.specs.FormViews.{form_view, forms_view}
use Rattle.fidl_lower_types.specs.Numbers.{IsAnswerKind, IsAnswerAt}
use Rattle.fidl_payloads.specs.Results.{IsResultKind, IsResultForm, IsFirstResult}
use Rattle.fidl_payloads.specs.Payloads.{result_path}

-- a form of the code among the forms
module _ (forms : List CodeForm) (i : ℕ) (form : CodeForm) (lt : i < length forms) (is : form ≡ get_or forms i form) where
  pub form_there : slice_get (forms_view forms) i ≡ Some (form_view form)
  form_there =
      let within : i < length (forms_view forms) = omega (arith, lt, length-map forms form_view) in
      slice_get-get_or (forms_view forms) i (form_view form) within ∙ ap Some (get_or-map form_view forms i form ∙ ap form_view (sym is))

module _ (forms : List Form) (number : ℕ) (path : List Step) where
  -- none of the forms before is the one
  abbrev pub NoneBefore : ℕ → Type 0
  NoneBefore i = (k : ℕ) (other : Form) → k < i → slice_get forms k ≡ Some other → IsResultForm number path other → ⊥

  abbrev pub NoFirst : Type 0
  NoFirst = (i : ℕ) → IsFirstResult forms number path i → ⊥

  -- where there is no first one and all places are numbers of 32 bits, there is none
  none_below : NoFirst → length forms ≤ 2 ^ 32 → (i : ℕ) → NoneBefore i
  none_below none few zero k other lt at is = omega (arith, lt)
  none_below none few (suc i) k other lt at is = elim (cases_lt k i) [
    | inl below ↦ none_below none few i k other below at is
    | inr ge ↦
        let same : k ≡ i = omega (arith, lt, ge) in
        let within = slice_get_within forms k other at in
        none k (record { form = other; at = at; is = is; first = subst NoneBefore (sym same) (none_below none few i); low = omega (arith, within, few) })
  ]

  -- so where there is one, and no first one, there are too many
  pub too_many : NoFirst → (form : Form) → Contains forms form → IsResultForm number path form → 2 ^ 32 < length forms
  too_many none form among is = elim (cases_lt (2 ^ 32) (length forms)) [
    | inl lt ↦ lt
    | inr few ↦ absurd (none_below none few (length forms) among.0 form among.1 (slice_get-get_or forms among.0 form among.1 ∙ ap Some among.2) is)
  ]

-- the result of a method is the one at its path
module _ (number : ℕ) (protocol method : Span) (form : Form) where
  pub answer_is_result : IsAnswerAt number false protocol method form → IsResultForm number (result_path protocol method) form
  answer_is_result h = record { kind_is = is_kind form.kind h.kind_is; file_is = h.file_is; path_is = h.path_is }
    where
      is_kind : (k : FormKind) → IsAnswerKind false k → IsResultKind k
      is_kind (layout_form optional l) h = h
      is_kind (result_form strict r) h = tt
      is_kind empty_response_form h = absurd (cc)

  pub result_is_answer : IsResultForm number (result_path protocol method) form → IsAnswerAt number false protocol method form
  result_is_answer h = record { kind_is = is_kind form.kind h.kind_is; file_is = h.file_is; path_is = h.path_is }
    where
      is_kind : (k : FormKind) → IsResultKind k → IsAnswerKind false k
      is_kind (layout_form optional l) h = h
      is_kind (result_form strict r) h = refl
      is_kind empty_response_form h = absurd h
