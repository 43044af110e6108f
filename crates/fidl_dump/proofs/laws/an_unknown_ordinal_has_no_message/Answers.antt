use Rattle.fidl_dump.proofs.One.{no_message}
use Rattle.fidl_dump.proofs.laws.an_unknown_ordinal_has_no_message.Goals as goal

pub returns : goal.returns
returns c = no_message
