use Rattle.std.proofs.Common.{◌≡◌, ℕ, true, List, refl, sym, subst}
use Rattle.std.specs.Prelude.{IfSome}
use Rattle.std.specs.List.{Contains}
use Rattle.std.proofs.lemmas.Option.{IfSome_then}
use Rattle.fidl_declarations.specs.declared.step.Step.{Step}
use Rattle.fidl_declarations.specs.declared.step.Step.TheVariants as step
use Rattle.fidl_lower_types.specs.Numbers.{all_forms, IsFirst, IsAnswerAt, method_path}
use Rattle.fidl_lower_types.proofs.Indexing.{first_too}
use Rattle.fidl_cycles.proofs.Lists.{contains_at as contains_there}
use Rattle.fidl_lower_layouts.specs.Results.{IsEmptyOf, IsEmptyNumber}
use Rattle.fidl_lower_layouts.proofs.Empties.{answer_is_empty, empty_is_answer, path_before}
use Rattle.fidl_lower_layouts.proofs.results.empty_number.Goals as goal

pub returns-in_err-protocol-clause-none : goal.returns-in_err-protocol-clause-none
returns-in_err-protocol-clause-none c = λ _ i first.
    let files = c.args.sources.now.named.now in
    let at = path_before files c.args.file_index c.args.result_path.now first.form (contains_there (all_forms files) i first.form first.at) first.is in
    c.in_err-protocol.ensures.none refl at.0 at.1.0 at.1.1

pub returns-clause-found : goal.returns-clause-found
returns-clause-found c =
    let files = c.args.sources.now.named.now in
    let n = c.args.file_index in
    let p = c.in_ok-protocol.protocol in
    let m = c.in_ok-protocol.method in
    let there = first_too (all_forms files) (IsAnswerAt n true p m) (IsEmptyOf n (method_path p m step.Result)) (λ form. answer_is_empty n p m form) (λ form. empty_is_answer n p m form) in
    subst (λ (path : List Step). IfSome c.empty_response_number.result (IsEmptyNumber files n path)) (sym c.in_ok-protocol.ensures.found) (IfSome_then c.empty_response_number.result c.empty_response_number.ensures.found there)

pub returns-clause-none : goal.returns-clause-none
returns-clause-none c = λ none i first.
    let files = c.args.sources.now.named.now in
    let n = c.args.file_index in
    let p = c.in_ok-protocol.protocol in
    let m = c.in_ok-protocol.method in
    let its = subst (λ (path : List Step). IsEmptyNumber files n path i) c.in_ok-protocol.ensures.found first in
    c.empty_response_number.ensures.none none i (first_too (all_forms files) (IsEmptyOf n (method_path p m step.Result)) (IsAnswerAt n true p m) (λ form. empty_is_answer n p m form) (λ form. answer_is_empty n p m form) i its)
