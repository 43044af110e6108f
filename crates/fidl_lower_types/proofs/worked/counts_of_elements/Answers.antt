use Rattle.std.proofs.Common.{sym, arith}
use Rattle.fidl_lower_types.specs.Counts.{CountIs}
use Rattle.fidl_lower_types.proofs.worked.counts_of_elements.Goals as goal

pub returns-clause-word : goal.returns-clause-word
returns-clause-word c = λ files f s e. CountIs.of_word s 3 (sym e) (omega arith) (omega arith)
