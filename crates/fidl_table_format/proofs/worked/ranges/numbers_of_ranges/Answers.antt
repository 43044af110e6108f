use Rattle.std.proofs.Common.{refl}
use Rattle.fidl_table_format.specs.Terms.{span}
use Rattle.fidl_table_format.proofs.worked.ranges.numbers_of_ranges.Goals as goal

pub returns-clause-version_two : goal.returns-clause-version_two
unfolding span
returns-clause-version_two c = refl

pub returns-clause-version_one : goal.returns-clause-version_one
unfolding span
returns-clause-version_one c = refl

pub returns-clause-negative : goal.returns-clause-negative
unfolding span
returns-clause-negative c = refl
