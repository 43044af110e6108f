use Rattle.std.proofs.Common.{refl}
use Rattle.std.specs.Fmt.{digits}
use Rattle.fidl_commands.proofs.worked.the_lines_of_texts_and_values.Goals as goal

pub returns-clause-text : goal.returns-clause-text
unfolding digits
returns-clause-text c = refl

pub returns-clause-value : goal.returns-clause-value
unfolding digits
returns-clause-value c = refl
