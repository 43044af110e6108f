use Rattle.std.specs.Prelude.{true, false}
use Rattle.fidl_decode_model.proofs.UnionFacts.{alone_broken, alone_present, zeros_right}
use Rattle.fidl_decode_model.proofs.worked.unions.an_envelope_without_an_ordinal.Goals as goal

pub returns-clause-optional : goal.returns-clause-optional
returns-clause-optional c = alone_broken true

pub returns-clause-required : goal.returns-clause-required
returns-clause-required c = alone_broken false

pub returns-clause-present : goal.returns-clause-present
returns-clause-present c = alone_present

pub returns-clause-absent : goal.returns-clause-absent
returns-clause-absent c = zeros_right
