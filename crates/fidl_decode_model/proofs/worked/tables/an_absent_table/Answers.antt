use Rattle.fidl_decode_model.proofs.TableFacts.{absent_table, present_table, marked_one}
use Rattle.fidl_decode_model.proofs.worked.tables.an_absent_table.Goals as goal

pub returns-clause-absent : goal.returns-clause-absent
returns-clause-absent c = absent_table

pub returns-clause-present : goal.returns-clause-present
returns-clause-present c = present_table

pub returns-clause-neither : goal.returns-clause-neither
returns-clause-neither c = marked_one
