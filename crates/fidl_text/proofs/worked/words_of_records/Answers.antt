use Rattle.std.proofs.Common.{refl}
use Rattle.std.specs.Fmt.{digits}
use Rattle.fidl_text.proofs.worked.words_of_records.Goals as goal

pub returns-clause-entry : goal.returns-clause-entry
unfolding digits
returns-clause-entry c = refl
