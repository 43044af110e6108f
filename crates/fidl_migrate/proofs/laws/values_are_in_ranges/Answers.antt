use Rattle.fidl_table_format.specs.Section.{header_of, entry_at}
use Rattle.fidl_table_format.specs.Terms.{underlying}
use Rattle.fidl_migrate.proofs.Enums.{numbers_are}
use Rattle.fidl_migrate.proofs.laws.values_are_in_ranges.Goals as goal

pub returns : goal.returns
returns c = λ bytes index.
    let e = entry_at bytes index in
    numbers_are bytes (header_of bytes) (underlying e) e.first e.count
