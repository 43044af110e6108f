use Rattle.std.proofs.Common.{◌∙◌}
use Rattle.fidl_wire.specs.Term.{resolve}
use Rattle.fidl_wire.proofs.Sizes.{length-inline, size_of-resolve}
use Rattle.fidl_wire.proofs.laws.inline_parts_have_their_size.Goals as goal

pub returns : goal.returns
returns c = λ ds w t v h. length-inline ds w (resolve ds.terms t) v h ∙ size_of-resolve ds w t
