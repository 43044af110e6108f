use Rattle.std.proofs.Common.{rules}
use Rattle.std.specs.List.{AllByRecursion}
use Rattle.std.proofs.lemmas.Result.{on_ok_weaker, IfErr-weaker}
use Rattle.fidl_tree.specs.Views.{file_view}
use Rattle.fidl_declarations.specs.Sites.{file_sites}
use Rattle.fidl_member_rules.specs.Rules.{SiteBreaks, TransportHolds, TransportBreaks, OneBreaks, FileBreaks, IsReportIn}
use Rattle.fidl_member_rules.proofs.Reports.{report_in}
use Rattle.fidl_member_rules.proofs.rules.check_file.Goals as goal

pub returns-in_err-check_file_sites-clause-fault_is_true : goal.returns-in_err-check_file_sites-clause-fault_is_true
returns-in_err-check_file_sites-clause-fault_is_true c =
    let f = file_view c.args.file.now in
    let h = report_in c.args.file_index (OneBreaks (SiteBreaks f.source) (file_sites f)) (FileBreaks f) (λ rule span b. FileBreaks.by_site b) c.in_err-check_file_sites.field-0.0 c.in_err-check_file_sites.ensures.fault_is_true in
    search (rules, h)

pub returns-clause-ok : goal.returns-clause-ok
returns-clause-ok c =
    let f = file_view c.args.file.now in
    on_ok_weaker c.check_transports.result (λ (h : AllByRecursion (TransportHolds f.source) f.declarations). record { sites = c.in_ok-check_file_sites.ensures.ok; transports = h }) c.check_transports.ensures.ok

pub returns-clause-fault_is_true : goal.returns-clause-fault_is_true
returns-clause-fault_is_true c =
    let f = file_view c.args.file.now in
    IfErr-weaker c.check_transports.result (IsReportIn c.args.file_index (OneBreaks (TransportBreaks f.source) f.declarations)) (IsReportIn c.args.file_index (FileBreaks f))
    (report_in c.args.file_index (OneBreaks (TransportBreaks f.source) f.declarations) (FileBreaks f) (λ rule span b. FileBreaks.by_transport b)) c.check_transports.ensures.fault_is_true
