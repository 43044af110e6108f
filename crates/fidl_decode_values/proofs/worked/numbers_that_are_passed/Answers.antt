use Rattle.std.proofs.Common.{refl}
use Rattle.fidl_table_format.specs.declared.kind.EntryKind.TheVariants.{Uint8}
use Rattle.fidl_decode_values.proofs.worked.numbers_that_are_passed.Goals as goal

pub returns-clause-byte : goal.returns-clause-byte
returns-clause-byte c = ((Uint8, refl, refl), refl)
