use Rattle.std.proofs.Common.{◌≡◌, ◌+◌, length, map, subst, arith}
use Rattle.fidl_wire.specs.Term.{Term}
use Rattle.fidl_equivalence.specs.Alike.{AlikeFields, IsNumbered}
use Rattle.fidl_ir.specs.Terms.{term_view, fields_view}
use Rattle.fidl_reachable_types.specs.Growing.{reference_view}
use Rattle.fidl_table_format.specs.declared.record.Row.{Row}
use Rattle.fidl_table_format.specs.Section.{header_of, row_at}
use Rattle.fidl_table_format.specs.Terms.{fields_from}
use Rattle.fidl_table_check.specs.Members.{IsMember, IsField}
use Rattle.fidl_table_check.proofs.Places.{one_more, all_places}
use Rattle.fidl_table_check.proofs.Fields.{alike_fields}
use Rattle.fidl_table_check.proofs.members.fields_are.Goals as goal

pub loop-place-preserved : goal.loop-place-preserved
loop-place-preserved c =
    let types = map reference_view c.args.types.now in
    let bytes = c.args.table.now in
    let f = c.index-fields-place.result in
    let row = row_at bytes (header_of bytes) (c.args.entry.now.first + c.loop-place.place) in
    let named : IsMember types bytes c.row-row.result f.name.items (term_view f.of) = subst (λ l. IsMember types bytes c.row-row.result l (term_view f.of)) c.as_slice.ensures.value (c.is_member.ensures c.if-not-is_member.false) in
    let here : IsMember types bytes row f.name.items (term_view f.of) = subst (λ (r : Row). IsMember types bytes r f.name.items (term_view f.of)) c.row-row.ensures.value named in
    one_more c.args.fields.now (λ k g. IsField types bytes c.args.entry.now k g) c.loop-place.place f c.index-fields-place.is here c.loop-place.invariant

pub returns : goal.returns
returns c = λ is.
    let types = map reference_view c.args.types.now in
    let bytes = c.args.table.now in
    let e = c.args.entry.now in
    let R : Term → Term → Type 0 = λ t u. IsNumbered types t u in
    let long : length c.args.fields.now ≡ e.count = omega arith in
    let each = all_places c.args.fields.now (λ k g. IsField types bytes e k g) c.loop-place.place (omega arith) c.loop-place.invariant in
    subst (λ n. AlikeFields R (fields_view c.args.fields.now) (fields_from bytes (header_of bytes) e.first n)) long (alike_fields types bytes c.args.fields.now e.first each)
