use Rattle.std.proofs.Common.{List, subst}
use Rattle.fidl_tree.specs.declared.file.File.{File}
use Rattle.fidl_composition.specs.Compositions.{IsTrueOfCompositions}
use Rattle.fidl_protocol.proofs.protocol_list.composed.Goals as goal

pub returns-in-Err-clause-fault_is_true : goal.returns-in-Err-clause-fault_is_true
returns-in-Err-clause-fault_is_true c =
    c.of_compositions.ensures.holds c.args.types.now (subst (λ (fs : List File). IsTrueOfCompositions fs c.in-Err.fault) c.named.ensures c.in-Err.ensures.fault_is_true)
