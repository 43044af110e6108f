use Rattle.fidl_dump.proofs.Refused.{refused_has_none}
use Rattle.fidl_dump.proofs.laws.refused_frames_have_no_line.Goals as goal

pub returns : goal.returns
returns c = refused_has_none
