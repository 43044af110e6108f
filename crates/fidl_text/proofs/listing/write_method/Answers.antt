use Rattle.fidl_text.proofs.Written.{writes_as}
use Rattle.fidl_text.proofs.Records.{method_named, method_as}
use Rattle.fidl_text.proofs.listing.write_method.Goals as goal

pub name_bytes-name-requires : goal.name_bytes-name-requires
name_bytes-name-requires g c = method_named c.args.table.now c.bytes-bytes.result.now c.read_header-header.result c.args.index c.bytes-bytes.ensures.value c.read_header-header.ensures c.bytes-bytes.ensures.well_formed c.read_method-method.result c.read_method-method.ensures c.requires

pub returns-clause-text : goal.returns-clause-text
returns-clause-text g c =
    writes_as _ _ _ _ c.write_words.result
    (method_as c.args.table.now c.bytes-bytes.result.now c.read_header-header.result c.args.index c.bytes-bytes.ensures.value
    c.read_header-header.ensures c.bytes-bytes.ensures.well_formed c.read_method-method.result c.name_bytes-name.result.now
    c.read_method-method.ensures c.name_bytes-name.ensures)
    c.write_words.ensures.text
