use Rattle.fidl_decode_model.proofs.UnionFacts.{absent_required, absent_optional}
use Rattle.fidl_decode_model.proofs.worked.unions.an_absent_union.Goals as goal

pub returns-clause-required : goal.returns-clause-required
returns-clause-required c = absent_required

pub returns-clause-optional : goal.returns-clause-optional
returns-clause-optional c = absent_optional
