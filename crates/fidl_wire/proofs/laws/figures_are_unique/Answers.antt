use Rattle.fidl_wire.proofs.Figures.{one_figures}
use Rattle.fidl_wire.proofs.laws.figures_are_unique.Goals as goal

pub returns : goal.returns
returns c = one_figures
