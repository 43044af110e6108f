use Rattle.fidl_dump.proofs.One.{one_line}
use Rattle.fidl_dump.proofs.laws.a_frame_has_one_line.Goals as goal

pub returns : goal.returns
returns c = one_line
