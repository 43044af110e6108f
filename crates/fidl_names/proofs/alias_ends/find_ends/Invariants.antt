use Rattle.std.proofs.Common.{take}
use Rattle.std.specs.List.{Contains}
use Rattle.fidl_named.specs.declared.place.DeclarationId.{DeclarationId}
use Rattle.fidl_named.specs.Aliases.{HasEnd, rows_of}
use Rattle.fidl_named.specs.FullNames.{HasDeclaration}
use Rattle.fidl_names.specs.DeclarationNumbers.{number_of}
use Rattle.fidl_names.specs.MeaningRows.{IsWithin}
use Rattle.fidl_names.proofs.alias_ends.find_ends.Given as goal

-- the rows have all ids, and the ends of those whose numbers have come
abbrev pub invariant-loop-number : goal.invariant-loop-number
invariant-loop-number l = record {
  within : (p : DeclarationId) → HasDeclaration l.names.set.now p → IsWithin (rows_of l.ends.items) p;
  ends : (p : DeclarationId) → HasDeclaration l.names.set.now p → Contains (take l.number-index l.order) (number_of l.numbers.starts.items p) → HasEnd l.names.set.now (rows_of l.ends.items) p;
}
