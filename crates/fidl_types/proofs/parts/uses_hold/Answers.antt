use Rattle.fidl_types.proofs.parts.uses_hold.Goals as goal

pub returns-in-Err-clause-fault_is_true : goal.returns-in-Err-clause-fault_is_true
returns-in-Err-clause-fault_is_true c = c.of_uses.ensures.fault_is_true c.args.sources.now.named.now c.in-Err.ensures.fault_is_true
