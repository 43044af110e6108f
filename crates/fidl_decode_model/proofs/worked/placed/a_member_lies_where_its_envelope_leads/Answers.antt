use Rattle.fidl_decode_model.proofs.Led.{member_there, member_elsewhere}
use Rattle.fidl_decode_model.proofs.worked.placed.a_member_lies_where_its_envelope_leads.Goals as goal

pub returns-clause-there : goal.returns-clause-there
returns-clause-there c = member_there

pub returns-clause-elsewhere : goal.returns-clause-elsewhere
returns-clause-elsewhere c = member_elsewhere
