use Rattle.fidl_decode_model.proofs.UnionFacts.{unknown_cut, unknown_whole}
use Rattle.fidl_decode_model.proofs.worked.unions.an_unknown_member_that_is_cut_off.Goals as goal

pub returns-clause-cut : goal.returns-clause-cut
returns-clause-cut c = unknown_cut

pub returns-clause-whole : goal.returns-clause-whole
returns-clause-whole c = unknown_whole
