use Rattle.fidl_method_rules.proofs.Small as small
use Rattle.fidl_method_rules.proofs.worked.identifiers_by_themselves.Goals as goal

pub returns-clause-word : goal.returns-clause-word
returns-clause-word c = small.get_is_word

pub returns-clause-no_end : goal.returns-clause-no_end
returns-clause-no_end c = small.no_end

pub returns-clause-no_head : goal.returns-clause-no_head
returns-clause-no_head c = small.no_head

pub returns-clause-no_blank : goal.returns-clause-no_blank
returns-clause-no_blank c = small.no_blank

pub returns-clause-no_empty : goal.returns-clause-no_empty
returns-clause-no_empty c = small.no_empty
