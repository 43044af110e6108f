use Rattle.std.proofs.Common.{refl}
use Rattle.fidl_script.proofs.worked.bodies_of_lines.Goals as goal

pub returns-clause-empty : goal.returns-clause-empty
returns-clause-empty c = λ table. refl

pub returns-clause-empty_text : goal.returns-clause-empty_text
returns-clause-empty_text c = λ table body h. h

pub returns-clause-no_text : goal.returns-clause-no_text
returns-clause-no_text c = λ table entry body h. h
