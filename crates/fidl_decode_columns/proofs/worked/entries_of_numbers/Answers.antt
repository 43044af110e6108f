use Rattle.std.proofs.Common.{refl}
use Rattle.fidl_table_format.specs.declared.kind.EntryKind.TheVariants.{Uint8}
use Rattle.fidl_decode_columns.proofs.worked.entries_of_numbers.Goals as goal

pub returns-clause-number : goal.returns-clause-number
returns-clause-number c = (Uint8, refl, refl)
