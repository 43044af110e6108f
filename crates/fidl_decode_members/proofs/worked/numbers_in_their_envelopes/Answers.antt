use Rattle.std.proofs.Common.{refl, arith}
use Rattle.fidl_table_format.specs.declared.kind.EntryKind.TheVariants.{Uint8}
use Rattle.fidl_decode_members.proofs.worked.numbers_in_their_envelopes.Goals as goal

pub returns-clause-byte : goal.returns-clause-byte
returns-clause-byte c = (((Uint8, refl, refl), refl), omega arith)
