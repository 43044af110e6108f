use Rattle.std.proofs.Common.{refl, arith}
use Rattle.fidl_table_format.specs.Terms.{span}
use Rattle.fidl_decode_columns.proofs.Examples.{two_is_none}
use Rattle.fidl_decode_columns.proofs.worked.numbers_that_are_values.Goals as goal

pub returns-clause-value : goal.returns-clause-value
unfolding span
returns-clause-value c = (0, omega arith, refl)

pub returns-clause-no_value : goal.returns-clause-no_value
unfolding span
returns-clause-no_value c = two_is_none
