use Rattle.std.proofs.Common.{◌≡◌, ◌<◌, ℕ, zero, suc, [], ◌∷◌, List, refl, sym, subst, ◌∙◌, arith}
use Rattle.std.specs.Prelude.{slice_get, Some}
use Rattle.std.proofs.lemmas.Option.{same_Some}
use Rattle.fidl_declarations.specs.declared.step.Step.{Step}
use Rattle.fidl_declarations.specs.Forms.{Form}
use Rattle.fidl_declarations.specs.declared.step.Step.TheVariants as step
use Rattle.fidl_lower_layouts.specs.Results.{IsEmptyOf}
use Rattle.fidl_lower_layouts.proofs.Paths.{one_before}
use Rattle.fidl_lower_layouts.proofs.worked.empty_responses.Goals as goal

pub returns-clause-paths : goal.returns-clause-paths
returns-clause-paths c = λ s. record { method = step.Name s ∷ []; of_result = refl; of_response = refl }

pub returns-clause-other_step : goal.returns-clause-other_step
returns-clause-other_step c = λ s h. let other : step.Error ≡ step.Response = (one_before (step.Name s ∷ []) h.method step.Error step.Response h.of_response).1 in absurd (cc)

pub returns-clause-other_method : goal.returns-clause-other_method
returns-clause-other_method c = λ s t other h.
    let one = (one_before (step.Name s ∷ []) h.method step.Result step.Result h.of_result).0 in
    let two = (one_before (step.Name t ∷ []) h.method step.Response step.Response h.of_response).0 in
    let both : step.Name s ∷ [] ≡ step.Name t ∷ [] = one ∙ sym two in
    let same : s ≡ t = cc in
    other same

none_first : (n : ℕ) (path : List Step) (r e : Form) → (IsEmptyOf n path r → ⊥) → (k : ℕ) (other : Form) → k < 1 → slice_get (r ∷ e ∷ []) k ≡ Some other → IsEmptyOf n path other → ⊥
none_first n path r e not zero other lt at is = not (subst (IsEmptyOf n path) (sym (same_Some r other at)) is)
none_first n path r e not (suc k) other lt at is = omega (arith, lt)

pub returns-clause-behind : goal.returns-clause-behind
returns-clause-behind c = λ n path r e not is. record { form = e; at = refl; is = is; first = none_first n path r e not; low = omega arith }

pub returns-clause-later : goal.returns-clause-later
returns-clause-later c = λ n path e d is h. h.first 0 e (omega arith) refl is

pub returns-clause-own : goal.returns-clause-own
returns-clause-own c = λ n s name. record { kind_is = refl; file_is = refl; of_method = record { method = step.Name s ∷ []; of_result = refl; of_response = refl } }
