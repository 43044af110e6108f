use Rattle.std.proofs.Common.{subst}
use Rattle.std.specs.List.{AllZip}
use Rattle.fidl_table.specs.Listed.{IsMethodEntry}
use Rattle.fidl_table.proofs.Finding.{protocol_listed}
use Rattle.fidl_table.proofs.protocols.protocol_entry.Goals as goal

pub returns : goal.returns
returns c =
    let files = c.args.named.now in
    protocol_listed files c.args.protocol.now c.in-Some.found _ c.in-Some.ensures.found c.in_ok-name.ensures c.openness_of-openness.ensures
    (subst (λ l. AllZip (IsMethodEntry files) l c.in_ok-methods.methods.items) c.deref.ensures.value c.in_ok-methods.ensures)
