use Rattle.fidl_decode_model.proofs.Spelled.{absent_counted, marked_one}
use Rattle.fidl_decode_model.proofs.worked.an_absent_text_with_a_count.Goals as goal

pub returns-clause-count : goal.returns-clause-count
returns-clause-count c = absent_counted

pub returns-clause-marker : goal.returns-clause-marker
returns-clause-marker c = marked_one
