use Rattle.fidl_text.specs.Listing.{table_text}
use Rattle.fidl_text.proofs.Written.{appends_kept, writes_kept}
use Rattle.fidl_text.proofs.listing.write_records.Goals as goal

pub returns-clause-text : goal.returns-clause-text
returns-clause-text g c =
    writes_kept _ _ (table_text c.args.table.now) c.flush.result (appends_kept _ _ _ (table_text c.args.table.now) c.in_ok-write_sections.ensures.text c.flush.ensures.bytes)
