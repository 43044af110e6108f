use Rattle.std.proofs.Common.{◌+◌, ◌*◌}
use Rattle.fidl_table_format.specs.Section.{entry_at}
use Rattle.fidl_wire.specs.Views.{values_view, members_view}
use Rattle.fidl_view.proofs.Growing.{AreElements, AreMembers, AreHeld}
use Rattle.fidl_view.proofs.tree.+tree.Given as goal

-- An out-of-line object lies one level of depth below its holder. At one depth a member is no larger
-- than its holder, and a member of a union that stands in its envelope is smaller than the union; at
-- one size it nests less.

abbrev pub decreases-elements_tree : goal.decreases-elements_tree
decreases-elements_tree l = 10000000 * l.depth + 100 * (entry_at l.table.now l.element).size + 3 * (entry_at l.table.now l.element).nest + 2

abbrev pub decreases-members_tree : goal.decreases-members_tree
decreases-members_tree l = 10000000 * l.depth + 100 * (entry_at l.table.now l.index).size + 3 * (entry_at l.table.now l.index).nest

abbrev pub decreases-value_tree : goal.decreases-value_tree
decreases-value_tree l = 10000000 * l.depth + 100 * (entry_at l.table.now l.index).size + 3 * (entry_at l.table.now l.index).nest + 1

abbrev pub decreases-vector_tree : goal.decreases-vector_tree
decreases-vector_tree l = 10000000 * l.depth

abbrev pub decreases-box_tree : goal.decreases-box_tree
decreases-box_tree l = 10000000 * l.depth

abbrev pub decreases-table_tree : goal.decreases-table_tree
decreases-table_tree l = 10000000 * l.depth

abbrev pub decreases-held_tree : goal.decreases-held_tree
decreases-held_tree l = 10000000 * l.slot.depth + 1001

abbrev pub decreases-member_tree : goal.decreases-member_tree
decreases-member_tree l = 10000000 * l.slot.depth + 1000

abbrev pub decreases-union_tree : goal.decreases-union_tree
decreases-union_tree l = 10000000 * l.depth + 1500

abbrev pub invariant-elements_tree-loop-at : goal.invariant-elements_tree-loop-at
invariant-elements_tree-loop-at l = AreElements l.fn.table l.fn.element l.at l.fn.view (values_view l.items)

abbrev pub invariant-members_tree-loop-at : goal.invariant-members_tree-loop-at
invariant-members_tree-loop-at l = AreMembers l.fn.table l.fn.index l.at l.fn.view (values_view l.items)

abbrev pub invariant-table_tree-loop-at : goal.invariant-table_tree-loop-at
invariant-table_tree-loop-at l = AreHeld l.fn.table l.fn.index l.at l.fn.view (members_view l.members)
