use Rattle.fidl_migrate.proofs.Enums.{enum_apart, fewest_of_enum, only_of_enum}
use Rattle.fidl_migrate.proofs.laws.enums_have_the_fewest_ranges.Goals as goal

pub returns-clause-apart : goal.returns-clause-apart
returns-clause-apart c = enum_apart

pub returns-clause-fewest : goal.returns-clause-fewest
returns-clause-fewest c = fewest_of_enum

pub returns-clause-only : goal.returns-clause-only
returns-clause-only c = only_of_enum
