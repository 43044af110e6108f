use Rattle.std.proofs.Common.{rules, ◌≡◌, ◌∙◌, Bool, true, false, Option, ap, sym, subst}
use Rattle.std.specs.Prelude.{option_map}
use Rattle.fidl_tree.specs.Syntax.{method_member}
use Rattle.fidl_tree.specs.Views.{payload_view, response_view, is_strict}
use Rattle.fidl_tree.specs.declared.protocol.Response.{Response}
use Rattle.fidl_declarations.specs.Sites.{has_result}
use Rattle.fidl_payloads.specs.declared.payload.Payload.TheVariants as payload
use Rattle.fidl_payloads.specs.Payloads.{result_path, MethodAnswers}
use Rattle.fidl_payloads.specs.Members.{IsMemberOf, answer_types, TypesHold, TypesBreak, IsReportIn}
use Rattle.fidl_payloads.proofs.Owed.{part_holds, answers_part, answers_result}
use Rattle.fidl_payloads.proofs.Stands.{result_stands}
use Rattle.fidl_payloads.proofs.members.response_of.Goals as goal

pub returns-in_err-written-clause-fault_is_true : goal.returns-in_err-written-clause-fault_is_true
returns-in_err-written-clause-fault_is_true c =
    let fs = c.args.sources.now.named.now in
    let i = c.args.file_index in
    let h = subst (λ (o : Option Response). IsReportIn i (TypesBreak fs i (answer_types (option_map response_view o))) c.in_err-written.field-0.0) (sym c.in-Some.is) c.in_err-written.ensures.fault_is_true in
    search (rules, h)

pub returns-then-not-has_result-clause-ok : goal.returns-then-not-has_result-clause-ok
returns-then-not-has_result-clause-ok c =
    let fs = c.args.sources.now.named.now in
    let i = c.args.file_index in
    let m = c.args.method.now in
    let r = c.in-Some.response in
    let strict = is_strict m.strictness in
    let path = result_path c.args.protocol m.name in
    let w = c.in_ok-written.written in
    let has : has_result strict (response_view r).error ≡ false = sym (c.has_result.ensures ∙ ap (λ (b : Bool). has_result b (response_view r).error) c.is_strict.ensures) ∙ c.if-not-has_result.true in
    subst (λ (o : Option Response). MethodAnswers fs i path strict (option_map response_view o) w) (sym c.in-Some.is) (answers_part fs i path strict (response_view r) has w c.in_ok-written.ensures.ok)

pub returns-then-not-has_result-clause-holds : goal.returns-then-not-has_result-clause-holds
returns-then-not-has_result-clause-holds c =
    let fs = c.args.sources.now.named.now in
    let i = c.args.file_index in
    let r = c.in-Some.response in
    subst (λ (o : Option Response). TypesHold fs i (answer_types (option_map response_view o))) (sym c.in-Some.is) (part_holds fs i (payload_view r.payload) c.in_ok-written.written c.in_ok-written.ensures.ok)

pub result_of-requires-clause-stands : goal.result_of-requires-clause-stands
result_of-requires-clause-stands c =
    let fs = c.args.sources.now.named.now in
    let i = c.args.file_index in
    let p = c.args.protocol in
    let m = c.args.method.now in
    let r = c.in-Some.response in
    let strict = is_strict m.strictness in
    let h = c.requires.stands in
    let has : has_result strict (response_view r).error ≡ true = sym (c.has_result.ensures ∙ ap (λ (b : Bool). has_result b (response_view r).error) c.is_strict.ensures) ∙ c.if-not-has_result.false in
    let member = subst (λ (o : Option Response). IsMemberOf fs i p (method_member h.0 strict m.name (payload_view m.request) (option_map response_view o))) c.in-Some.is h.1 in
    result_stands fs i p h.0 strict m.name (payload_view m.request) (response_view r) member has

pub returns-in-Some-result_of-clause-ok : goal.returns-in-Some-result_of-clause-ok
returns-in-Some-result_of-clause-ok c =
    let fs = c.args.sources.now.named.now in
    let i = c.args.file_index in
    let m = c.args.method.now in
    let r = c.in-Some.response in
    let strict = is_strict m.strictness in
    let path = result_path c.args.protocol m.name in
    let n = c.in-Some-result_of.number in
    let has : has_result strict (response_view r).error ≡ true = sym (c.has_result.ensures ∙ ap (λ (b : Bool). has_result b (response_view r).error) c.is_strict.ensures) ∙ c.if-not-has_result.false in
    subst (λ (o : Option Response). MethodAnswers fs i path strict (option_map response_view o) (payload.«Type» n)) (sym c.in-Some.is) (answers_result fs i path strict (response_view r) has n c.in-Some-result_of.ensures.found)

pub returns-in-Some-result_of-clause-holds : goal.returns-in-Some-result_of-clause-holds
returns-in-Some-result_of-clause-holds c =
    let fs = c.args.sources.now.named.now in
    let i = c.args.file_index in
    let r = c.in-Some.response in
    subst (λ (o : Option Response). TypesHold fs i (answer_types (option_map response_view o))) (sym c.in-Some.is) (part_holds fs i (payload_view r.payload) c.in_ok-written.written c.in_ok-written.ensures.ok)
