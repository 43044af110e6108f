use Rattle.std.proofs.Common.{◌≡◌, ◌∙◌, ◌<◌, ℕ, zero, suc, List, [], ◌∷◌, Some, refl, sym, subst, arith}
use Rattle.std.specs.Prelude.{slice_get}
use Rattle.std.proofs.lemmas.Option.{same_Some}
use Rattle.fidl_declarations.specs.declared.step.Step.{Step}
use Rattle.fidl_declarations.specs.Forms.{Form}
use Rattle.fidl_payloads.specs.Results.{IsResultKind, IsResultForm}
use Rattle.fidl_payloads.specs.Payloads.{result_path}
use Rattle.fidl_payloads.proofs.worked.forms_of_results.Goals as goal

pub returns-clause-other_method : goal.returns-clause-other_method
returns-clause-other_method c = λ p m other form differ h k.
    let paths : result_path p m ≡ result_path p other = sym h.path_is ∙ k.path_is in
    let same : m ≡ other = cc in
    differ same

pub returns-clause-other_file : goal.returns-clause-other_file
returns-clause-other_file c = λ path form h k.
    let same : ◌≡◌ {A = ℕ} 2 3 = sym h.file_is ∙ k.file_is in
    omega (arith, same)

pub returns-clause-no_result : goal.returns-clause-no_result
returns-clause-no_result c = λ path form is h. subst IsResultKind is h.kind_is

none_first : (n : ℕ) (path : List Step) (one other : Form) → (IsResultForm n path one → ⊥) → (k : ℕ) (form : Form) → k < 1 → slice_get (one ∷ other ∷ []) k ≡ Some form → IsResultForm n path form → ⊥
none_first n path one other not zero form lt at is = not (subst (IsResultForm n path) (sym (same_Some one form at)) is)
none_first n path one other not (suc k) form lt at is = omega (arith, lt)

pub returns-clause-behind : goal.returns-clause-behind
returns-clause-behind c = λ n path one other not is. record { form = other; at = refl; is = is; first = none_first n path one other not; low = omega arith }

pub returns-clause-later : goal.returns-clause-later
returns-clause-later c = λ n path one other is h. h.first 0 one (omega arith) refl is

pub returns-clause-too_high : goal.returns-clause-too_high
returns-clause-too_high c = λ forms n path h. let low = h.low in omega (arith, low)
