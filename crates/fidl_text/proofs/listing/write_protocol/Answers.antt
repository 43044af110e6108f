use Rattle.fidl_text.proofs.Records.{protocol_named}
use Rattle.fidl_text.proofs.listing.write_protocol.Goals as goal

pub name_bytes-name-requires : goal.name_bytes-name-requires
name_bytes-name-requires g c = protocol_named c.args.table.now c.bytes-bytes.result.now c.read_header-header.result c.args.index c.bytes-bytes.ensures.value c.read_header-header.ensures c.bytes-bytes.ensures.well_formed c.read_protocol-protocol.result c.read_protocol-protocol.ensures c.requires
