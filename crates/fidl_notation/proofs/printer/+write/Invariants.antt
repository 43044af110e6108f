use Rattle.std.proofs.Common.{◌+◌, ◌*◌}
use Rattle.fidl_table_format.specs.Section.{entry_at}
use Rattle.fidl_notation.proofs.Printing.{IsElementsLeft, IsMembersLeft}
use Rattle.fidl_notation.proofs.Tables.{IsTableLeft}
use Rattle.fidl_notation.proofs.printer.+write.Given as goal

-- An out-of-line object lies one level of depth below its holder. At one depth a member is no larger
-- than its holder, and a member of a union that stands in its envelope is smaller than the union; at
-- one size it nests less.

abbrev pub decreases-write_elements : goal.decreases-write_elements
decreases-write_elements g l = 10000000 * l.depth + 100 * (entry_at l.table.now l.element).size + 3 * (entry_at l.table.now l.element).nest + 2

abbrev pub decreases-write_named : goal.decreases-write_named
decreases-write_named g l = 10000000 * l.depth + 100 * (entry_at l.table.now l.row.now.entry).size + 3 * (entry_at l.table.now l.row.now.entry).nest + 2

abbrev pub decreases-write_members : goal.decreases-write_members
decreases-write_members g l = 10000000 * l.depth + 100 * (entry_at l.table.now l.index).size + 3 * (entry_at l.table.now l.index).nest

abbrev pub decreases-write_value : goal.decreases-write_value
decreases-write_value g l = 10000000 * l.depth + 100 * (entry_at l.table.now l.index).size + 3 * (entry_at l.table.now l.index).nest + 1

abbrev pub decreases-write_vector : goal.decreases-write_vector
decreases-write_vector g l = 10000000 * l.depth

abbrev pub decreases-write_box : goal.decreases-write_box
decreases-write_box g l = 10000000 * l.depth

abbrev pub decreases-write_table : goal.decreases-write_table
decreases-write_table g l = 10000000 * l.depth

abbrev pub decreases-write_slot : goal.decreases-write_slot
decreases-write_slot g l = 10000000 * l.slot.depth + 1001

abbrev pub decreases-write_member : goal.decreases-write_member
decreases-write_member g l = 10000000 * l.slot.depth + 1000

abbrev pub decreases-write_union : goal.decreases-write_union
decreases-write_union g l = 10000000 * l.depth + 1500

abbrev pub invariant-write_elements-loop-at : goal.invariant-write_elements-loop-at
invariant-write_elements-loop-at g l = IsElementsLeft l.fn.table l.fn.element l.at l.fn.view (g.W.Sink.taken l.fn.out) (g.W.Sink.taken l.out)

abbrev pub invariant-write_members-loop-at : goal.invariant-write_members-loop-at
invariant-write_members-loop-at g l = IsMembersLeft l.fn.table l.fn.index l.at l.fn.view (g.W.Sink.taken l.fn.out) (g.W.Sink.taken l.out)

abbrev pub invariant-write_table-loop-at : goal.invariant-write_table-loop-at
invariant-write_table-loop-at g l = IsTableLeft l.fn.table l.fn.index l.at l.later l.fn.view (g.W.Sink.taken l.fn.out) (g.W.Sink.taken l.out)
