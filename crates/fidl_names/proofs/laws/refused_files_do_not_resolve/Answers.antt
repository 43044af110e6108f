-- Files of which a refusal is true don't resolve.
use Rattle.fidl_names.proofs.Excluded.{excluded}
use Rattle.fidl_names.proofs.laws.refused_files_do_not_resolve.Goals as goal

pub returns : goal.returns
returns c = λ files fault other true_of resolves. excluded files resolves fault other true_of
