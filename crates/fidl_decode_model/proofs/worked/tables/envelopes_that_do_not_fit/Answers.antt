use Rattle.fidl_decode_model.proofs.TableFacts.{two_too_many, one_fits}
use Rattle.fidl_decode_model.proofs.worked.tables.envelopes_that_do_not_fit.Goals as goal

pub returns-clause-two : goal.returns-clause-two
returns-clause-two c = two_too_many

pub returns-clause-one : goal.returns-clause-one
returns-clause-one c = one_fits
