use Rattle.fidl_type_shape.proofs.Excluded.{excluded}
use Rattle.fidl_type_shape.proofs.laws.refused_definitions_have_no_figures.Goals as goal

pub returns : goal.returns
returns c = excluded
