use Rattle.fidl_decode_model.proofs.TableFacts.{second_behind_zeros, second_behind_member, zeros_right}
use Rattle.fidl_decode_model.proofs.worked.tables.the_second_envelope.Goals as goal

pub returns-clause-behind_zeros : goal.returns-clause-behind_zeros
returns-clause-behind_zeros c = second_behind_zeros

pub returns-clause-behind_a : goal.returns-clause-behind_a
returns-clause-behind_a c = second_behind_member

pub returns-clause-zeros : goal.returns-clause-zeros
returns-clause-zeros c = zeros_right
