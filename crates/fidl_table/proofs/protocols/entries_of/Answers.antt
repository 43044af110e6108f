use Rattle.std.proofs.Common.{◌+◌, List, take, sym, subst}
use Rattle.std.specs.List.{AllZip}
use Rattle.fidl_table_build.specs.declared.listing.ProtocolEntry.{ProtocolEntry}
use Rattle.fidl_protocol.proofs.Lists.{zip_further}
use Rattle.fidl_table.specs.Listed.{IsProtocolEntry}
use Rattle.fidl_table.proofs.protocols.entries_of.Goals as goal

pub loop-protocol-preserved : goal.loop-protocol-preserved
loop-protocol-preserved c =
    let protocols = c.args.protocols.now in
    let i = c.loop-protocol.protocol-index in
    let R = IsProtocolEntry c.args.named.now in
    let new = c.in_ok-protocol_entry.field-0 in
    subst (λ l. AllZip R (take (i + 1) protocols) l) (sym {A = List ProtocolEntry} c.in_ok-push.ensures.items) (zip_further R protocols i c.protocol-item.result c.loop-protocol.entries.items new c.loop-protocol-test.true c.loop-protocol.invariant (subst (λ p. R p new) c.protocol-item.is c.in_ok-protocol_entry.ensures))
