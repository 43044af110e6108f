use Rattle.fidl_method_rules.proofs.Small as small
use Rattle.fidl_method_rules.proofs.worked.what_selectors_select.Goals as goal

pub returns-clause-no_more : goal.returns-clause-no_more
returns-clause-no_more c = small.no_more
