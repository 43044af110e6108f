use Rattle.fidl_migrate.proofs.Apart.{only_ranges, fewest_ranges}
use Rattle.fidl_migrate.proofs.laws.ranges_apart_are_the_only_ones.Goals as goal

pub returns-clause-only : goal.returns-clause-only
returns-clause-only c = only_ranges

pub returns-clause-fewest : goal.returns-clause-fewest
returns-clause-fewest c = λ ranges others. fewest_ranges others ranges
