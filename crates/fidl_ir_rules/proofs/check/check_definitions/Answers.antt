use Rattle.fidl_ir_rules.proofs.check.check_definitions.Goals as goal

pub returns-clause-fault_is_true : goal.returns-clause-fault_is_true
returns-clause-fault_is_true c = c.check_inline.ensures.fault_is_true c.args.marks.now
