use Rattle.fidl_method_rules.proofs.Small as small
use Rattle.fidl_method_rules.proofs.worked.names_of_methods.Goals as goal

pub returns-clause-name : goal.returns-clause-name
returns-clause-name c = λ f l p m library lib own called. small.full_name f l p library lib own m called

pub returns-clause-other : goal.returns-clause-other
returns-clause-other c = λ f l p library lib own. small.other_name f l p library lib own
