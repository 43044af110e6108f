use Rattle.fidl_method_rules.proofs.Small as small
use Rattle.fidl_method_rules.proofs.worked.entries_of_members.Goals as goal

pub returns-clause-none : goal.returns-clause-none
returns-clause-none c = small.no_entries

pub returns-clause-not_left_out : goal.returns-clause-not_left_out
returns-clause-not_left_out c = small.not_left_out
