-- What is refused has no value.
use Rattle.fidl_consts.proofs.NoValue.{no_value}
use Rattle.fidl_const.proofs.laws.refused_expressions_have_no_value.Goals as goal

pub returns : goal.returns
returns c files f number t v fault k = no_value files f number t fault v k
