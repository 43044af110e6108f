use Rattle.fidl_text.proofs.Written.{writes_as}
use Rattle.fidl_text.proofs.Records.{entry_as}
use Rattle.fidl_text.proofs.listing.write_entry.Goals as goal

pub returns-clause-text : goal.returns-clause-text
returns-clause-text g c =
    writes_as _ _ _ _ c.write_words.result
    (entry_as c.args.table.now c.args.index c.entry-entry.result c.kind_word.result.now c.entry_name.result.now c.entry-entry.ensures.value c.kind_word.ensures c.entry_name.ensures)
    c.write_words.ensures.text
