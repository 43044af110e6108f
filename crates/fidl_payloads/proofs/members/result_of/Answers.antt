use Rattle.std.proofs.Common.{ℕ, false}
use Rattle.std.proofs.lemmas.Option.{IfSome_then}
use Rattle.fidl_lower_types.specs.Numbers.{all_forms, IsAnswerAt, IsFirst}
use Rattle.fidl_lower_types.proofs.Indexing.{first_too}
use Rattle.fidl_payloads.specs.Results.{IsResultForm}
use Rattle.fidl_payloads.specs.Payloads.{result_path}
use Rattle.fidl_payloads.proofs.Finding.{too_many, answer_is_result, result_is_answer}
use Rattle.fidl_payloads.proofs.members.result_of.Goals as goal

pub returns-clause-found : goal.returns-clause-found
returns-clause-found c =
    let i = c.args.file_index in
    let p = c.args.protocol in
    let m = c.args.method in
    IfSome_then c.result_number.result c.result_number.ensures.found
    (first_too (all_forms c.args.sources.now.named.now) (IsAnswerAt i false p m) (IsResultForm i (result_path p m)) (λ form. answer_is_result i p m form) (λ form. result_is_answer i p m form))

pub returns-clause-none : goal.returns-clause-none
returns-clause-none c = λ empty.
    let i = c.args.file_index in
    let p = c.args.protocol in
    let m = c.args.method in
    let forms = all_forms c.args.sources.now.named.now in
    let none : (n : ℕ) → IsFirst forms (IsResultForm i (result_path p m)) n → ⊥ = λ n first. c.result_number.ensures.none empty n (first_too forms (IsResultForm i (result_path p m)) (IsAnswerAt i false p m) (λ form. result_is_answer i p m form) (λ form. answer_is_result i p m form) n first) in
    let h = c.requires.stands in
    too_many forms i (result_path p m) none h.form h.among h.is
