use Rattle.std.proofs.Common.{◌+◌, ◌*◌, ◌<◌, length}
use Rattle.fidl_wire.specs.Term as ty
use Rattle.fidl_wire.specs.Term.{resolve}
use Rattle.fidl_wire.specs.Value.{list, fields, table}
use Rattle.fidl_wire.specs.Views.{values_view, members_view}
use Rattle.fidl_table_format.specs.Section.{header_of, entry_at}
use Rattle.fidl_table_format.specs.Terms.{declarations_of, members_of, fields_from}
use Rattle.fidl_spelling.specs.Spells.{Spelled}
use Rattle.fidl_reading.specs.Cuts.{texts_of}
use Rattle.fidl_reading.specs.Reads.{has_some, least_after, type_at}
use Rattle.fidl_reading.proofs.Leading.{Leads}
use Rattle.fidl_reading.proofs.Elements.{behind, ElementsLeft}
use Rattle.fidl_reading.proofs.Fields.{RowsLeft}
use Rattle.fidl_reading.proofs.Rising.{ahead, MembersLeft}
use Rattle.fidl_reading.proofs.reader.Reader.+read.Given as goal

abbrev pub decreases-read_list : goal.decreases-read_list
decreases-read_list l = 2 * length l.words.now

abbrev pub decreases-read_member : goal.decreases-read_member
decreases-read_member l = 2 * length l.words.now

abbrev pub decreases-read_struct : goal.decreases-read_struct
decreases-read_struct l = 2 * length l.words.now

abbrev pub decreases-read_table : goal.decreases-read_table
decreases-read_table l = 2 * length l.words.now

abbrev pub decreases-read_union : goal.decreases-read_union
decreases-read_union l = 2 * length l.words.now

abbrev pub decreases-read_value : goal.decreases-read_value
decreases-read_value l = 2 * length l.words.now + 1

abbrev pub invariant-read_list-loop-values : goal.invariant-read_list-loop-values
invariant-read_list-loop-values l =
    let ds = declarations_of l.self.table.now in
    let xs = values_view l.values in
    record {
      leads : Leads (Spelled ds (ty.array (ty.named l.element) 0)) (texts_of l.words) (ElementsLeft ds (type_at l.self.table.now l.element) (has_some xs)) (texts_of l.left) (λ vs. list (behind xs vs));
      fewer : length l.left < length l.words;
    }

abbrev pub decreases-read_list-loop-values : goal.decreases-read_list-loop-values
decreases-read_list-loop-values l = length l.left

abbrev pub invariant-read_struct-loop-k : goal.invariant-read_struct-loop-k
invariant-read_struct-loop-k l =
    let b = l.self.table.now in
    let e = entry_at b l.index in
    let xs = values_view l.values in
    record {
      leads : Leads (Spelled (declarations_of b) (ty.struct (fields_from b (header_of b) e.first e.count))) (texts_of l.words) (RowsLeft b e.first e.count l.k (has_some xs)) (texts_of l.left) (λ vs. fields (behind xs vs));
      fewer : length l.left < length l.words;
    }

abbrev pub invariant-read_table-loop-last : goal.invariant-read_table-loop-last
invariant-read_table-loop-last l =
    let b = l.self.table.now in
    let rows = members_of b l.index in
    let xs = members_view l.members in
    record {
      leads : Leads (Spelled (declarations_of b) (ty.table rows)) (texts_of l.words) (MembersLeft (declarations_of b) rows (has_some xs) (least_after l.last)) (texts_of l.left) (λ ms. table l.count (ahead xs ms));
      fewer : length l.left < length l.words;
    }

abbrev pub decreases-read_table-loop-last : goal.decreases-read_table-loop-last
decreases-read_table-loop-last l = length l.left
