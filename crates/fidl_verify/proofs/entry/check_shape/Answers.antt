use Rattle.std.proofs.Common.{sym, ◌∙◌}
use Rattle.fidl_table_format.specs.Uses.{uses_rows, uses_values}
use Rattle.fidl_verify.proofs.Known.{unfollowed}
use Rattle.fidl_verify.proofs.Breaking.{refused, wrong_kind, wrong_shape, wrong_children, wrong_rows, wrong_values}
use Rattle.fidl_verify.proofs.entry.check_shape.Goals as goal

pub returns-in_default-clause-fault_is_true : goal.returns-in_default-clause-fault_is_true
returns-in_default-clause-fault_is_true c =
    wrong_kind c.args.table.now.bytes.now c.args.table.now.header c.args.table.now.is_header c.args.table.now.whole c.args.index c.requires.within c.args.entry.now c.requires.entry (sym c.from_number.ensures ∙ c.in_default.is)

pub returns-then-not-has_shape-clause-fault_is_true : goal.returns-then-not-has_shape-clause-fault_is_true
returns-then-not-has_shape-clause-fault_is_true c =
    wrong_shape c.args.table.now.bytes.now c.args.table.now.header c.args.table.now.is_header c.args.table.now.whole c.args.index c.requires.within c.args.entry.now c.requires.entry (refused c.if-not-has_shape.ensures)

pub returns-then-not-has_children-clause-fault_is_true : goal.returns-then-not-has_children-clause-fault_is_true
returns-then-not-has_children-clause-fault_is_true c =
    wrong_children c.args.table.now.bytes.now c.args.table.now.header c.args.table.now.is_header c.args.table.now.whole c.args.index c.requires.within c.args.entry.now c.requires.entry (refused c.if-not-has_children.ensures)

pub returns-then-not-follows-clause-fault_is_true : goal.returns-then-not-follows-clause-fault_is_true
returns-then-not-follows-clause-fault_is_true c =
    wrong_rows c.args.table.now.bytes.now c.args.table.now.header c.args.table.now.is_header c.args.table.now.whole c.args.index c.requires.within c.args.entry.now c.requires.entry (unfollowed uses_rows c.in-Some.kind c.args.entry.now c.uses_rows.result _ _ (sym c.from_number.ensures ∙ c.in-Some.is) c.uses_rows.ensures c.requires.parts.rows (refused c.if-not-follows.ensures))

pub returns-then-not-follows-2-clause-fault_is_true : goal.returns-then-not-follows-2-clause-fault_is_true
returns-then-not-follows-2-clause-fault_is_true c =
    wrong_values c.args.table.now.bytes.now c.args.table.now.header c.args.table.now.is_header c.args.table.now.whole c.args.index c.requires.within c.args.entry.now c.requires.entry (unfollowed uses_values c.in-Some.kind c.args.entry.now c.uses_values.result _ _ (sym c.from_number.ensures ∙ c.in-Some.is) c.uses_values.ensures c.requires.parts.values (refused c.if-not-follows-2.ensures))
