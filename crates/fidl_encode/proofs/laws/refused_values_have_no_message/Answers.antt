use Rattle.fidl_encode.proofs.Whole.{no_message}
use Rattle.fidl_encode.proofs.laws.refused_values_have_no_message.Goals as goal

pub returns : goal.returns
returns c = no_message
