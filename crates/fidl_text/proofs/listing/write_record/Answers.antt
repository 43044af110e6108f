use Rattle.std.proofs.Common.{sym, ap}
use Rattle.fidl_table_format.specs.Section.{header_of}
use Rattle.fidl_text.specs.declared.listing.Section.{Section}
use Rattle.fidl_text.specs.Listing.{record_line}
use Rattle.fidl_text.proofs.Written.{writes_as}
use Rattle.fidl_text.proofs.listing.write_record.Goals as goal

pub returns-in-Methods-clause-text : goal.returns-in-Methods-clause-text
returns-in-Methods-clause-text g c =
    let b = c.args.table.now in
    writes_as _ _ _ _ c.write_method.result (ap (λ (s : Section). record_line s b (header_of b) c.args.index) (sym c.in-Methods.is)) c.write_method.ensures.text
