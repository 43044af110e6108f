use Rattle.std.proofs.Common.{◌≡◌, length, map, subst, arith}
use Rattle.fidl_wire.specs.Term.{Term}
use Rattle.fidl_equivalence.specs.Alike.{AlikeRows, IsNumbered}
use Rattle.fidl_ir.specs.declared.term.Row.{Row}
use Rattle.fidl_ir.specs.Terms.{rows_view}
use Rattle.fidl_reachable_types.specs.Growing.{reference_view}
use Rattle.fidl_table_format.specs.Section.{header_of}
use Rattle.fidl_table_format.specs.Terms.{rows_from}
use Rattle.fidl_table_check.specs.Members.{IsRow}
use Rattle.fidl_table_check.proofs.Places.{one_more, all_places}
use Rattle.fidl_table_check.proofs.Rows.{alike_rows}
use Rattle.fidl_table_check.proofs.members.rows_are.Goals as goal

pub loop-place-preserved : goal.loop-place-preserved
loop-place-preserved c =
    let r : Row = c.index-rows-place.result in
    one_more c.args.rows.now (λ k (r : Row). IsRow (map reference_view c.args.types.now) c.args.table.now c.args.entry.now k r) c.loop-place.place r c.index-rows-place.is (c.is_row.ensures c.if-not-is_row.false) c.loop-place.invariant

pub returns : goal.returns
returns c = λ is.
    let types = map reference_view c.args.types.now in
    let bytes = c.args.table.now in
    let e = c.args.entry.now in
    let R : Term → Term → Type 0 = λ t u. IsNumbered types t u in
    let long : length c.args.rows.now ≡ e.count = omega arith in
    let each = all_places c.args.rows.now (λ k (r : Row). IsRow types bytes e k r) c.loop-place.place (omega arith) c.loop-place.invariant in
    subst (λ n. AlikeRows R (rows_view c.args.rows.now) (rows_from bytes (header_of bytes) e.first n)) long
    (alike_rows types bytes c.args.rows.now e.first (λ k r at. let m = each k r at in record { key = m.key; member = m.member }))
