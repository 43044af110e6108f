use Rattle.fidl_verify.proofs.Declared.{sound}
use Rattle.fidl_verify.proofs.laws.tables_are_sound.Goals as goal

pub returns : goal.returns
returns c = sound
