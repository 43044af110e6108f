use Rattle.fidl_serve.proofs.Outputs.{output_nothing}
use Rattle.fidl_serve.proofs.worked.no_input_ends_between_frames.Goals as goal

pub returns : goal.returns
returns c = output_nothing
