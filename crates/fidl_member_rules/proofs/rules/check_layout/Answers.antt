use Rattle.std.proofs.Common.{sym, true≢false, ◌∙◌}
use Rattle.std.proofs.lemmas.Result.{on_ok_weaker, IfErr-weaker}
use Rattle.fidl_tree.specs.Views.{body_view}
use Rattle.fidl_member_rules.specs.Ordinals.{last_ordinal, layout_ordinals, OrdinalsHold}
use Rattle.fidl_member_rules.specs.Rules.{OrdinalsBreak, LayoutBreaks, IsReportIn}
use Rattle.fidl_member_rules.proofs.Reports.{report_ordinals}
use Rattle.fidl_member_rules.proofs.rules.check_layout.Goals as goal

pub returns-clause-ok : goal.returns-clause-ok
returns-clause-ok c =
    let l = body_view c.args.body.now in
    on_ok_weaker c.check_layout_ordinals.result
    (λ (h : OrdinalsHold c.args.file.now.src.now (last_ordinal l) (layout_ordinals l)). record { ordinals = h; members = λ e. true≢false (sym (c.is_empty_strict.ensures.1 e) ∙ c.if-is_empty_strict.false) })
    c.check_layout_ordinals.ensures.ok

pub returns-clause-fault_is_true : goal.returns-clause-fault_is_true
returns-clause-fault_is_true c =
    let l = body_view c.args.body.now in
    IfErr-weaker c.check_layout_ordinals.result (IsReportIn c.args.file_index (OrdinalsBreak c.args.file.now.src.now (last_ordinal l) (layout_ordinals l))) (IsReportIn c.args.file_index (LayoutBreaks c.args.file.now.src.now l))
    (report_ordinals c.args.file.now.src.now l c.args.file_index) c.check_layout_ordinals.ensures.fault_is_true
