use Rattle.std.proofs.Common.{refl}
use Rattle.std.specs.Fmt.{digits}
use Rattle.fidl_text.proofs.worked.values_have_their_ends.Goals as goal

pub returns-clause-one : goal.returns-clause-one
unfolding digits
returns-clause-one c = refl

pub returns-clause-two : goal.returns-clause-two
unfolding digits
returns-clause-two c = refl

pub returns-clause-alone : goal.returns-clause-alone
unfolding digits
returns-clause-alone c = refl
