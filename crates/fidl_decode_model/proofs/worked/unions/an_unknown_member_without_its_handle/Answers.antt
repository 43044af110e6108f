use Rattle.fidl_decode_model.proofs.UnionFacts.{no_record, one_record}
use Rattle.fidl_decode_model.proofs.worked.unions.an_unknown_member_without_its_handle.Goals as goal

pub returns-clause-missing : goal.returns-clause-missing
returns-clause-missing c = no_record

pub returns-clause-there : goal.returns-clause-there
returns-clause-there c = one_record
