use Rattle.fidl_decode_model.proofs.TableFacts.{two_in_envelope, one_in_envelope, two_out_of_line}
use Rattle.fidl_decode_model.proofs.worked.tables.a_bool_in_a_table.Goals as goal

pub returns-clause-two : goal.returns-clause-two
returns-clause-two c = two_in_envelope

pub returns-clause-one : goal.returns-clause-one
returns-clause-one c = one_in_envelope

pub returns-clause-out : goal.returns-clause-out
returns-clause-out c = two_out_of_line
