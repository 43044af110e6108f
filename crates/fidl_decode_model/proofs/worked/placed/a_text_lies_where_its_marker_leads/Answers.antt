use Rattle.fidl_decode_model.proofs.Led.{text_there, text_elsewhere}
use Rattle.fidl_decode_model.proofs.worked.placed.a_text_lies_where_its_marker_leads.Goals as goal

pub returns-clause-there : goal.returns-clause-there
returns-clause-there c = text_there

pub returns-clause-elsewhere : goal.returns-clause-elsewhere
returns-clause-elsewhere c = text_elsewhere
