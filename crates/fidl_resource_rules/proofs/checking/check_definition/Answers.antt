use Rattle.std.proofs.Common.{rules, ◌≡◌}
use Rattle.std.proofs.lemmas.Result.{on_ok_weaker, IfErr-weaker}
use Rattle.fidl_span.specs.declared.words.Span.{Span}
use Rattle.fidl_tree.specs.Views.{type_view}
use Rattle.fidl_consts.specs.Refusals.{type_span}
use Rattle.fidl_resource_rules.specs.Kinds.{IsUint32}
use Rattle.fidl_resource_rules.specs.Resources.{HasSubtype, PropertyBreaks, ResourceBreaks, IsReportIn}
use Rattle.fidl_resource_rules.proofs.Reports.{report_in}
use Rattle.fidl_resource_rules.proofs.checking.check_definition.Goals as goal

pub returns-in_err-check_underlying-clause-fault_is_true : goal.returns-in_err-check_underlying-clause-fault_is_true
returns-in_err-check_underlying-clause-fault_is_true c =
    let fs = c.args.sources.now.named.now in
    let i = c.args.file_index in
    let d = c.args.definition.now in
    let t = type_view d.constructor in
    let h = report_in i (λ (span : Span). (IsUint32 fs i t → ⊥) × (span ≡ type_span t)) (ResourceBreaks fs i c.args.file.now d) (λ span b. ResourceBreaks.by_underlying b.0 b.1) c.in_err-check_underlying.field-0.0 c.in_err-check_underlying.ensures.fault_is_true in
    search (rules, h)

pub returns-in_err-check_properties-clause-fault_is_true : goal.returns-in_err-check_properties-clause-fault_is_true
returns-in_err-check_properties-clause-fault_is_true c =
    let fs = c.args.sources.now.named.now in
    let i = c.args.file_index in
    let f = c.args.file.now in
    let d = c.args.definition.now in
    let h = report_in i (PropertyBreaks fs i f d.properties.members.items) (ResourceBreaks fs i f d) (λ span b. ResourceBreaks.by_property b) c.in_err-check_properties.field-0.0 (search (rules, c.in_err-check_properties.ensures.fault_is_true, c.deref.ensures.value)) in
    search (rules, h)

pub returns-clause-ok : goal.returns-clause-ok
returns-clause-ok c =
    on_ok_weaker c.check_subtype.result (λ (h : HasSubtype c.args.file.now c.args.definition.now.properties.members.items). record {
      uint32 = c.in_ok-check_underlying.ensures.ok;
      properties = search (rules, c.in_ok-check_properties.ensures.ok, c.deref.ensures.value);
      subtype = h;
    }) c.check_subtype.ensures.ok

pub returns-clause-fault_is_true : goal.returns-clause-fault_is_true
returns-clause-fault_is_true c =
    let fs = c.args.sources.now.named.now in
    let i = c.args.file_index in
    let f = c.args.file.now in
    let d = c.args.definition.now in
    let lacks = λ (span : Span). (HasSubtype f d.properties.members.items → ⊥) × (span ≡ d.name) in
    IfErr-weaker c.check_subtype.result (IsReportIn i lacks) (IsReportIn i (ResourceBreaks fs i f d))
    (report_in i lacks (ResourceBreaks fs i f d) (λ span b. ResourceBreaks.by_lack b.0 b.1)) c.check_subtype.ensures.fault_is_true
