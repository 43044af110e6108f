use Rattle.fidl_verify.proofs.Breaking.{refused, wrong_sorted, wrong_names}
use Rattle.fidl_verify.proofs.entry.check_entry.Goals as goal

pub returns-then-not-is_sorted-clause-fault_is_true : goal.returns-then-not-is_sorted-clause-fault_is_true
returns-then-not-is_sorted-clause-fault_is_true c =
    wrong_sorted c.args.table.now.bytes.now c.args.table.now.header c.args.table.now.is_header c.args.table.now.whole c.args.index c.requires.within c.entry-entry.result c.entry-entry.ensures (refused c.if-not-is_sorted.ensures)

pub returns-then-not-has_names-clause-fault_is_true : goal.returns-then-not-has_names-clause-fault_is_true
returns-then-not-has_names-clause-fault_is_true c =
    wrong_names c.args.table.now.bytes.now c.args.table.now.header c.args.table.now.is_header c.args.table.now.whole c.args.index c.requires.within c.entry-entry.result c.entry-entry.ensures (refused c.if-not-has_names.ensures.value)
