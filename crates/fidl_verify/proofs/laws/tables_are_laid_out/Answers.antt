use Rattle.fidl_verify.proofs.Declared.{laid_out}
use Rattle.fidl_verify.proofs.laws.tables_are_laid_out.Goals as goal

pub returns : goal.returns
returns c = laid_out
