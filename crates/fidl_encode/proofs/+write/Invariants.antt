use Rattle.std.proofs.Common.{◌+◌, ◌*◌}
use Rattle.fidl_wire.specs.Term as ty
use Rattle.fidl_wire.specs.Figure.{size_of}
use Rattle.fidl_table_format.specs.Section.{entry_at}
use Rattle.fidl_table_format.specs.Terms.{declarations_of, members_of}
use Rattle.fidl_encode.specs.Writing.{written}
use Rattle.fidl_encode.specs.Parts.{type_at, fields_at}
use Rattle.fidl_encode.proofs.Elements as elements
use Rattle.fidl_encode.proofs.Fields as members
use Rattle.fidl_encode.proofs.Envelopes as envelopes
use Rattle.fidl_encode.proofs.+write.Given as goal

-- An out-of-line object lies one level of depth below its holder. At one depth a member is no larger than its holder, and a member of a
-- union that stands in its envelope is smaller than the union; at one size it nests less.

abbrev pub decreases-value::write_any : goal.decreases-value::write_any
decreases-value::write_any l = 10000000 * l.target.depth + 100 * (entry_at l.table.now l.index).size + 4 * (entry_at l.table.now l.index).nest + 2

abbrev pub decreases-value::write_value : goal.decreases-value::write_value
decreases-value::write_value l = 10000000 * l.target.depth + 100 * (entry_at l.table.now l.index).size + 4 * (entry_at l.table.now l.index).nest + 3

abbrev pub decreases-list::write_elements : goal.decreases-list::write_elements
decreases-list::write_elements l = 10000000 * l.target.depth + 100 * (entry_at l.table.now l.element).size + 4 * (entry_at l.table.now l.element).nest + 4

abbrev pub decreases-list::write_array : goal.decreases-list::write_array
decreases-list::write_array l = 10000000 * l.target.depth + 100 * (entry_at l.table.now l.entry.now.first).size + 4 * (entry_at l.table.now l.entry.now.first).nest + 5

abbrev pub decreases-list::write_vector : goal.decreases-list::write_vector
decreases-list::write_vector l = 10000000 * l.target.depth

abbrev pub decreases-structs::write_members : goal.decreases-structs::write_members
decreases-structs::write_members l = 10000000 * l.target.depth + 100 * (entry_at l.table.now l.index).size + 4 * (entry_at l.table.now l.index).nest

abbrev pub decreases-structs::write_struct : goal.decreases-structs::write_struct
decreases-structs::write_struct l = 10000000 * l.target.depth + 100 * (entry_at l.table.now l.index).size + 4 * (entry_at l.table.now l.index).nest + 1

abbrev pub decreases-structs::write_box : goal.decreases-structs::write_box
decreases-structs::write_box l = 10000000 * l.target.depth

abbrev pub decreases-envelope::write_table : goal.decreases-envelope::write_table
decreases-envelope::write_table l = 10000000 * l.target.depth

abbrev pub decreases-envelope::write_envelopes : goal.decreases-envelope::write_envelopes
decreases-envelope::write_envelopes l = 10000000 * l.target.depth + 1501

abbrev pub decreases-envelope::write_union : goal.decreases-envelope::write_union
decreases-envelope::write_union l = 10000000 * l.target.depth + 1501

abbrev pub decreases-envelope::write_member : goal.decreases-envelope::write_member
decreases-envelope::write_member l = 10000000 * l.target.depth + 1500

abbrev pub decreases-envelope::write_inline : goal.decreases-envelope::write_inline
decreases-envelope::write_inline l = 10000000 * l.target.depth + 1499

abbrev pub decreases-envelope::write_outside : goal.decreases-envelope::write_outside
decreases-envelope::write_outside l = 10000000 * l.target.depth + 1499

abbrev pub invariant-list::write_elements-loop-k : goal.invariant-list::write_elements-loop-k
invariant-list::write_elements-loop-k l =
    elements.IsLeft (declarations_of l.fn.table) (type_at l.fn.table l.fn.element) (entry_at l.fn.table l.fn.element).size l.fn.values l.fn.target.depth l.fn.target.at (written l.fn.out) l.k (written l.out)

abbrev pub invariant-structs::write_members-loop-k : goal.invariant-structs::write_members-loop-k
invariant-structs::write_members-loop-k l =
    members.IsLeft l.fn.table (size_of (declarations_of l.fn.table) (ty.struct (fields_at l.fn.table l.fn.index))) (entry_at l.fn.table l.fn.index).first (entry_at l.fn.table l.fn.index).count l.fn.values l.fn.target.depth l.fn.target.at
    (written l.fn.out) l.k (written l.out)

abbrev pub invariant-envelope::write_envelopes-loop-k : goal.invariant-envelope::write_envelopes-loop-k
invariant-envelope::write_envelopes-loop-k l =
    envelopes.IsLeft (declarations_of l.fn.table) (members_of l.fn.table l.fn.envelopes.index) l.fn.envelopes.count l.fn.members l.fn.target.depth l.fn.target.at (written l.fn.out) l.k l.last (written l.out)
