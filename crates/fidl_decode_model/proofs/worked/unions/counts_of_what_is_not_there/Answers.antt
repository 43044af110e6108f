use Rattle.fidl_decode_model.proofs.UnionFacts.{handle_counted, no_handle_counted, sixteen_counted, eight_counted}
use Rattle.fidl_decode_model.proofs.worked.unions.counts_of_what_is_not_there.Goals as goal

pub returns-clause-handle : goal.returns-clause-handle
returns-clause-handle c = handle_counted

pub returns-clause-none : goal.returns-clause-none
returns-clause-none c = no_handle_counted

pub returns-clause-sixteen : goal.returns-clause-sixteen
returns-clause-sixteen c = sixteen_counted

pub returns-clause-eight : goal.returns-clause-eight
returns-clause-eight c = eight_counted
