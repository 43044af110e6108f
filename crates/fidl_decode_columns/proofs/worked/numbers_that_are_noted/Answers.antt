use Rattle.std.proofs.Common.{refl, subst, arith}
use Rattle.std.specs.Prelude.{Contains}
use Rattle.fidl_table_format.specs.Samples.{three_enums}
use Rattle.fidl_table_format.specs.Section.{header_of, entry_at}
use Rattle.fidl_table_format.specs.Terms.{span, underlying, value_number, values_from}
use Rattle.fidl_decode_columns.proofs.Examples.{only_seven, zero_is_none}
use Rattle.fidl_decode_columns.proofs.worked.numbers_that_are_noted.Goals as goal

pub returns-clause-seven : goal.returns-clause-seven
unfolding span
returns-clause-seven c = λ n one.
    let t = three_enums 2 3 in
    let d = entry_at t 2 in
    subst (λ k. Contains (values_from t (header_of t) (underlying d) d.first d.count) (value_number (underlying d) k)) (only_seven n one) (0, omega arith, refl)

pub returns-clause-zero : goal.returns-clause-zero
unfolding span
returns-clause-zero c = λ h. zero_is_none (h 0 refl)
