use Rattle.std.proofs.Common.{List, subst}
use Rattle.std.proofs.lemmas.Result.{IfErr-weaker}
use Rattle.fidl_tree.specs.declared.declaration.Declaration.{Declaration}
use Rattle.fidl_resource_rules.specs.Resources.{OneBreaks, IsReportIn, IsTrueOfResources}
use Rattle.fidl_resource_rules.proofs.Reports.{report_file}
use Rattle.fidl_resource_rules.proofs.checking.check_file.Goals as goal

pub returns-clause-fault_is_true : goal.returns-clause-fault_is_true
returns-clause-fault_is_true c =
    let fs = c.args.sources.now.named.now in
    let i = c.args.file_index in
    let f = c.file-file.result.now in
    IfErr-weaker c.check_declarations.result (IsReportIn i (OneBreaks fs i f c.deref.result.now)) (IsTrueOfResources fs)
    (λ fault h. report_file fs i f c.file-file.ensures fault (subst (λ (l : List Declaration). IsReportIn i (OneBreaks fs i f l) fault) c.deref.ensures.value h))
    c.check_declarations.ensures.fault_is_true
