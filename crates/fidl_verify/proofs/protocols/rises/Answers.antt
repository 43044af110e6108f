use Rattle.fidl_table_format.specs.Protocol.{protocol_name}
use Rattle.fidl_verify.proofs.Rising.{rises_from}
use Rattle.fidl_verify.proofs.protocols.rises.Goals as goal

pub returns-else-index-eq0 : goal.returns-else-index-eq0
returns-else-index-eq0 c =
    rises_from (protocol_name c.args.table.now.bytes.now c.args.table.now.header) c.args.index c.protocol_name.result.now c.protocol_name-else-index-eq0.result.now c.is_before.result c.if-index-eq0.false c.protocol_name.ensures c.protocol_name-else-index-eq0.ensures c.is_before.ensures
