use Rattle.fidl_dump.proofs.One.{one_text}
use Rattle.fidl_dump.proofs.laws.frames_have_one_text.Goals as goal

pub returns : goal.returns
returns c = one_text
