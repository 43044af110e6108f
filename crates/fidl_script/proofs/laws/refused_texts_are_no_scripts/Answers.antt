use Rattle.fidl_script.proofs.Refused.{refused}
use Rattle.fidl_script.proofs.laws.refused_texts_are_no_scripts.Goals as goal

pub returns : goal.returns
returns c = refused
