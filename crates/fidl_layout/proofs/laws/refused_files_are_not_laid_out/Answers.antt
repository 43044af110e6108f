use Rattle.fidl_layout.proofs.Excluded.{refused_not}
use Rattle.fidl_layout.proofs.laws.refused_files_are_not_laid_out.Goals as goal

pub returns : goal.returns
returns c = λ files fault definitions figures other h laid. refused_not files definitions figures laid fault other h
