use Rattle.std.proofs.Common.{subst}
use Rattle.fidl_tree.specs.Views.{file_view}
use Rattle.fidl_method_rules.specs.declared.fault.MethodFault.{MethodFault}
use Rattle.fidl_method_rules.specs.Rules.{ProtocolBreaks, IsReportIn}
use Rattle.fidl_protocol.proofs.parts.of_methods.Goals as goal

pub returns-in-NotStrict-clause-holds : goal.returns-in-NotStrict-clause-holds
returns-in-NotStrict-clause-holds c = λ files id f openness name members at report.
    let true_of = subst (λ (fault : MethodFault). IsReportIn id.file (ProtocolBreaks (file_view f) openness name members) fault) c.in-NotStrict.is report in
    record { id = id; file = f; openness = openness; name = name; members = members; at = at; breaks = true_of.1; file_is = true_of.0 }

pub returns-in-BadSelector-clause-holds : goal.returns-in-BadSelector-clause-holds
returns-in-BadSelector-clause-holds c = λ files id f openness name members at report.
    let true_of = subst (λ (fault : MethodFault). IsReportIn id.file (ProtocolBreaks (file_view f) openness name members) fault) c.in-BadSelector.is report in
    record { id = id; file = f; openness = openness; name = name; members = members; at = at; breaks = true_of.1; file_is = true_of.0 }

pub returns-in-ZeroOrdinal-clause-holds : goal.returns-in-ZeroOrdinal-clause-holds
returns-in-ZeroOrdinal-clause-holds c = λ files id f openness name members at report.
    let true_of = subst (λ (fault : MethodFault). IsReportIn id.file (ProtocolBreaks (file_view f) openness name members) fault) c.in-ZeroOrdinal.is report in
    record { id = id; file = f; openness = openness; name = name; members = members; at = at; breaks = true_of.1; file_is = true_of.0 }
