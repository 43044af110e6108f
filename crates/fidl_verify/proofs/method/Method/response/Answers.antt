use Rattle.std.proofs.Common.{sym, ◌∙◌, subst, ap}
use Rattle.fidl_verify.specs.Lookups.{EntryHolds, response_of, method_record, payload_of}
use Rattle.fidl_table_format.specs.Method.{has_response}
use Rattle.fidl_verify.proofs.Ordinals.{entry_holds}
use Rattle.fidl_verify.proofs.method.Method.response.Goals as goal

pub returns-clause-entry : goal.returns-clause-entry
returns-clause-entry c =
    let is = c.carried.ensures ∙ ap (λ b. payload_of b c.record-record.result.response) c.has_response.ensures ∙ ap response_of c.record-record.ensures.value in
    let m = method_record c.args.self.now in
    let w = c.record-record.ensures.of_table in
    subst (EntryHolds c.args.self.now.table) (sym is)
    (entry_holds c.args.self.now.table (has_response m) m.response (w.well_formed.methods c.args.self.now.number w.within).shape.messages.response)
