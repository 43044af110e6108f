use Rattle.fidl_method_rules.proofs.Small as small
use Rattle.fidl_method_rules.proofs.worked.full_names.Goals as goal

pub returns-clause-whole : goal.returns-clause-whole
returns-clause-whole c = small.whole_name

pub returns-clause-no_slash : goal.returns-clause-no_slash
returns-clause-no_slash c = small.no_slash

pub returns-clause-two_slashes : goal.returns-clause-two_slashes
returns-clause-two_slashes c = small.two_slashes

pub returns-clause-no_method : goal.returns-clause-no_method
returns-clause-no_method c = small.no_method

pub returns-clause-no_selection : goal.returns-clause-no_selection
returns-clause-no_selection c = small.no_selection
