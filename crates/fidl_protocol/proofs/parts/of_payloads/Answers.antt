use Rattle.std.proofs.Common.{subst}
use Rattle.fidl_payloads.specs.declared.fault.PayloadFault.{PayloadFault}
use Rattle.fidl_payloads.specs.Members.{MemberBreaks, IsReportIn}
use Rattle.fidl_protocol.proofs.parts.of_payloads.Goals as goal

pub returns-in-BadPayload-clause-holds : goal.returns-in-BadPayload-clause-holds
returns-in-BadPayload-clause-holds c = λ files id f openness name members m at among report.
    let true_of = subst (λ (fault : PayloadFault). IsReportIn id.file (MemberBreaks files id.file m) fault) c.in-BadPayload.is report in
    record { id = id; file = f; openness = openness; name = name; members = members; member = m; at = at; among = among; breaks = true_of.1; file_is = true_of.0 }
