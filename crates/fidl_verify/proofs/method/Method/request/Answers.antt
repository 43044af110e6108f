use Rattle.std.proofs.Common.{sym, ◌∙◌, subst, ap}
use Rattle.fidl_verify.specs.Lookups.{EntryHolds, request_of, method_record, payload_of}
use Rattle.fidl_table_format.specs.Method.{has_request}
use Rattle.fidl_verify.proofs.Ordinals.{entry_holds}
use Rattle.fidl_verify.proofs.method.Method.request.Goals as goal

pub returns-clause-entry : goal.returns-clause-entry
returns-clause-entry c =
    let is = c.carried.ensures ∙ ap (λ b. payload_of b c.record-record.result.request) c.has_request.ensures ∙ ap request_of c.record-record.ensures.value in
    let m = method_record c.args.self.now in
    let w = c.record-record.ensures.of_table in
    subst (EntryHolds c.args.self.now.table) (sym is)
    (entry_holds c.args.self.now.table (has_request m) m.request (w.well_formed.methods c.args.self.now.number w.within).shape.messages.request)
