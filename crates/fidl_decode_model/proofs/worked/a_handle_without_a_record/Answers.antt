use Rattle.fidl_decode_model.proofs.Handed.{no_record, one_record}
use Rattle.fidl_decode_model.proofs.worked.a_handle_without_a_record.Goals as goal

pub returns-clause-missing : goal.returns-clause-missing
returns-clause-missing c = no_record

pub returns-clause-there : goal.returns-clause-there
returns-clause-there c = one_record
