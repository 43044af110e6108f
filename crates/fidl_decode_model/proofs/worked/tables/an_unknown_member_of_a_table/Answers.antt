use Rattle.fidl_decode_model.proofs.TableFacts.{four_bytes, no_record, one_record}
use Rattle.fidl_decode_model.proofs.worked.tables.an_unknown_member_of_a_table.Goals as goal

pub returns-clause-four : goal.returns-clause-four
returns-clause-four c = four_bytes

pub returns-clause-missing : goal.returns-clause-missing
returns-clause-missing c = no_record

pub returns-clause-there : goal.returns-clause-there
returns-clause-there c = one_record
