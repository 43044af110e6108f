-- Files of which a refusal is true don't evaluate.
use Rattle.fidl_const.proofs.Excluded.{excluded}
use Rattle.fidl_const.proofs.laws.refused_files_do_not_evaluate.Goals as goal

pub returns : goal.returns
returns c = λ files fault other true_of evaluates. excluded files evaluates fault other true_of
