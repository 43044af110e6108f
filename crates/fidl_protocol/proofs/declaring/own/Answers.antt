use Rattle.fidl_protocol.proofs.declaring.own.Goals as goal

pub returns-in-Err-clause-fault_is_true : goal.returns-in-Err-clause-fault_is_true
returns-in-Err-clause-fault_is_true c = c.of_methods.ensures.holds c.args.types.now c.args.found.now.id c.args.found.now.file.now _ _ _ c.requires.found c.in-Err.ensures.fault_is_true
