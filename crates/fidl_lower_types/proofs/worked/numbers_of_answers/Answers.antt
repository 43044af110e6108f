use Rattle.std.proofs.Common.{◌≡◌, ◌∙◌, ℕ, false, refl, sym, subst, arith}
use Rattle.std.proofs.lemmas.Option.{none-some}
use Rattle.fidl_declarations.specs.declared.step.Step.TheVariants as step
use Rattle.fidl_lower_types.specs.Numbers.{IsAnswerKind, method_path}
use Rattle.fidl_lower_types.proofs.worked.numbers_of_answers.Goals as goal

pub returns-clause-result : goal.returns-clause-result
returns-clause-result c = λ p m name strict r. record { kind_is = refl; file_is = refl; path_is = refl }

pub returns-clause-empty : goal.returns-clause-empty
returns-clause-empty c = λ p m name. record { kind_is = refl; file_is = refl; path_is = refl }

pub returns-clause-no_result : goal.returns-clause-no_result
returns-clause-no_result c = λ p m form is h. let both = subst (IsAnswerKind false) is h.kind_is in absurd (cc)

pub returns-clause-other_file : goal.returns-clause-other_file
returns-clause-other_file c = λ p m form h k.
    let same : ◌≡◌ {A = ℕ} 2 3 = sym h.file_is ∙ k.file_is in
    omega (arith, same)

pub returns-clause-other_method : goal.returns-clause-other_method
returns-clause-other_method c = λ p m n form differ h k.
    let paths : method_path p m step.Result ≡ method_path p n step.Result = sym h.path_is ∙ k.path_is in
    let same : m ≡ n = cc in
    differ same

pub returns-clause-other_protocol : goal.returns-clause-other_protocol
returns-clause-other_protocol c = λ p q m form differ h k.
    let paths : method_path p m step.Result ≡ method_path q m step.Result = sym h.path_is ∙ k.path_is in
    let same : p ≡ q = cc in
    differ same

pub returns-clause-layout : goal.returns-clause-layout
returns-clause-layout c = λ p m k ms form is h. subst (IsAnswerKind false) is h.kind_is

pub returns-clause-none : goal.returns-clause-none
returns-clause-none c = λ p m i h. none-some h.form h.at
