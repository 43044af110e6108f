use Rattle.std.proofs.Common.{refl}
use Rattle.fidl_lower_types.proofs.answers.key_of_answer.Goals as goal

pub returns-in_err-is_empty-clause-none : goal.returns-in_err-is_empty-clause-none
returns-in_err-is_empty-clause-none c = λ _ key its. c.in_err-is_empty.ensures.none refl its.empty its.at.kind_is
