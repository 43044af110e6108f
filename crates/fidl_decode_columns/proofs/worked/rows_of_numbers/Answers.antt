use Rattle.std.proofs.Common.{◌≡◌, refl, subst, arith}
use Rattle.fidl_table_format.specs.declared.kind.EntryKind.TheVariants.{Uint8}
use Rattle.fidl_table_format.specs.Section.{header_of, row_at}
use Rattle.fidl_decode_columns.specs.Columns.{IsNumericAt}
use Rattle.fidl_decode_columns.specs.Samples.{box_and_number}
use Rattle.fidl_decode_columns.proofs.worked.rows_of_numbers.Goals as goal

pub returns-clause-second : goal.returns-clause-second
returns-clause-second c = λ i from to.
    let is : 1 ≡ i = omega (arith, from, to) in
    subst (λ k. IsNumericAt box_and_number (row_at box_and_number (header_of box_and_number) k).entry) is (Uint8, refl, refl)
