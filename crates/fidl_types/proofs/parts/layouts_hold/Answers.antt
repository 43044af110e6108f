use Rattle.fidl_types.proofs.parts.layouts_hold.Goals as goal

pub returns-in-Err-clause-fault_is_true : goal.returns-in-Err-clause-fault_is_true
returns-in-Err-clause-fault_is_true c = c.of_layouts.ensures.fault_is_true c.args.sources.now.named.now c.in-Err.ensures.fault_is_true
