use Rattle.fidl_verify.proofs.Breaking.{uncovered, uncovered_value}
use Rattle.fidl_verify.proofs.table.check_covered.Goals as goal

pub returns-then-parts-table-clause-fault_is_true : goal.returns-then-parts-table-clause-fault_is_true
returns-then-parts-table-clause-fault_is_true c = uncovered c.args.table.now.bytes.now c.args.table.now.header c.args.table.now.is_header c.args.table.now.whole c.args.parts.rows c.requires.parts.rows c.if-parts-table.true

pub returns-then-parts-table-2-clause-fault_is_true : goal.returns-then-parts-table-2-clause-fault_is_true
returns-then-parts-table-2-clause-fault_is_true c = uncovered_value c.args.table.now.bytes.now c.args.table.now.header c.args.table.now.is_header c.args.table.now.whole c.args.parts.values c.requires.parts.values c.if-parts-table-2.true
