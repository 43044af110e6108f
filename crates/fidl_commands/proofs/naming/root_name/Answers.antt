use Rattle.fidl_commands.proofs.Names.{root_named}
use Rattle.fidl_commands.proofs.naming.root_name.Goals as goal

pub name_bytes-requires : goal.name_bytes-requires
name_bytes-requires c = root_named c.args.table.now c.bytes-bytes.result.now c.read_header-header.result c.args.index c.bytes-bytes.ensures.value c.read_header-header.ensures c.bytes-bytes.ensures.well_formed c.read_root-root.result c.read_root-root.ensures c.requires
