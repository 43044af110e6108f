use Rattle.fidl_text.proofs.Records.{root_named}
use Rattle.fidl_text.proofs.listing.write_root.Goals as goal

pub name_bytes-name-requires : goal.name_bytes-name-requires
name_bytes-name-requires g c = root_named c.args.table.now c.bytes-bytes.result.now c.read_header-header.result c.args.index c.bytes-bytes.ensures.value c.read_header-header.ensures c.bytes-bytes.ensures.well_formed c.read_root-root.result c.read_root-root.ensures c.requires
