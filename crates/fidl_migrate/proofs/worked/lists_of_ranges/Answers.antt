use Rattle.std.proofs.Common.{refl, rules}
use Rattle.fidl_table_format.specs.Terms.{span}
use Rattle.fidl_migrate.proofs.worked.lists_of_ranges.Goals as goal

pub returns-clause-apart : goal.returns-clause-apart
returns-clause-apart c = (search rules, search rules, (search rules, tt, tt))

pub returns-clause-with_a_gap : goal.returns-clause-with_a_gap
unfolding span
returns-clause-with_a_gap c = refl

pub returns-clause-joined : goal.returns-clause-joined
unfolding span
returns-clause-joined c = refl
