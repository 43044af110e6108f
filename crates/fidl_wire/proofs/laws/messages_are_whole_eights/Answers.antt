use Rattle.fidl_wire.specs.Term.{resolve}
use Rattle.fidl_wire.proofs.Whole.{whole-message}
use Rattle.fidl_wire.proofs.laws.messages_are_whole_eights.Goals as goal

pub returns : goal.returns
returns c = λ ds t v h. whole-message ds (resolve ds.terms t) v h
