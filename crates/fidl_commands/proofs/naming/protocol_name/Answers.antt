use Rattle.fidl_commands.proofs.Names.{protocol_named}
use Rattle.fidl_commands.proofs.naming.protocol_name.Goals as goal

pub name_bytes-requires : goal.name_bytes-requires
name_bytes-requires c = protocol_named c.args.table.now c.bytes-bytes.result.now c.read_header-header.result c.args.index c.bytes-bytes.ensures.value c.read_header-header.ensures c.bytes-bytes.ensures.well_formed c.read_protocol-protocol.result c.read_protocol-protocol.ensures c.requires
