use Rattle.std.proofs.Common.{rules}
use Rattle.std.specs.Prelude.{option_map}
use Rattle.fidl_tree.specs.Views.{payload_view, response_view}
use Rattle.fidl_payloads.specs.Members.{part_types, answer_types}
use Rattle.fidl_payloads.proofs.Owed.{part_holds, hold_both, report_left, report_right}
use Rattle.fidl_payloads.proofs.members.method_payloads.Goals as goal

pub returns-in_err-request-clause-fault_is_true : goal.returns-in_err-request-clause-fault_is_true
returns-in_err-request-clause-fault_is_true c =
    let m = c.args.method.now in
    let h = report_left c.args.sources.now.named.now c.args.file_index (part_types (payload_view m.request)) (answer_types (option_map response_view m.response)) c.in_err-request.field-0.0 c.in_err-request.ensures.fault_is_true in
    search (rules, h)

pub returns-in_err-response-clause-fault_is_true : goal.returns-in_err-response-clause-fault_is_true
returns-in_err-response-clause-fault_is_true c =
    let m = c.args.method.now in
    let h = report_right c.args.sources.now.named.now c.args.file_index (part_types (payload_view m.request)) (answer_types (option_map response_view m.response)) c.in_err-response.field-0.0 c.in_err-response.ensures.fault_is_true in
    search (rules, h)

pub returns-clause-holds : goal.returns-clause-holds
returns-clause-holds c =
    let fs = c.args.sources.now.named.now in
    let i = c.args.file_index in
    let m = c.args.method.now in
    hold_both fs i (part_types (payload_view m.request)) (answer_types (option_map response_view m.response)) (part_holds fs i (payload_view m.request) c.in_ok-request.request c.in_ok-request.ensures.ok) c.in_ok-response.ensures.holds
