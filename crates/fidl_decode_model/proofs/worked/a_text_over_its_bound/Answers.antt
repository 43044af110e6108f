use Rattle.fidl_decode_model.proofs.Spelled.{over_two, within_three}
use Rattle.fidl_decode_model.proofs.worked.a_text_over_its_bound.Goals as goal

pub returns-clause-over : goal.returns-clause-over
returns-clause-over c = over_two

pub returns-clause-within : goal.returns-clause-within
returns-clause-within c = within_three
