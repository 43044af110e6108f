use Rattle.std.proofs.Common.{rules}
use Rattle.fidl_tree.specs.Views.{file_view, openness_view, protocol_member_view}
use Rattle.fidl_method_rules.specs.MethodViews.{method_view}
use Rattle.fidl_method_rules.proofs.Reports.{report_method}
use Rattle.fidl_method_rules.proofs.methods.own_method.Goals as goal

pub returns-in_err-check_strictness-clause-fault_is_true : goal.returns-in_err-check_strictness-clause-fault_is_true
returns-in_err-check_strictness-clause-fault_is_true c =
    let s = c.args.scope.now in
    let h = report_method s.file_index (file_view s.file.now) (openness_view s.protocol.now.openness) s.protocol.now.name (protocol_member_view c.args.member.now) (method_view c.in-Some.method) c.in-Some.ensures.found c.in_err-check_strictness.field-0.0 c.in_err-check_strictness.ensures.fault_is_true in
    search (rules, h)

pub returns-in_err-ordinal-clause-fault_is_true : goal.returns-in_err-ordinal-clause-fault_is_true
returns-in_err-ordinal-clause-fault_is_true c =
    let s = c.args.scope.now in
    let h = report_method s.file_index (file_view s.file.now) (openness_view s.protocol.now.openness) s.protocol.now.name (protocol_member_view c.args.member.now) (method_view c.in-Some.method) c.in-Some.ensures.found c.in_err-ordinal.field-0.0 c.in_err-ordinal.ensures.fault_is_true in
    search (rules, h)
