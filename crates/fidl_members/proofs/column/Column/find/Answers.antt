use Rattle.std.proofs.Common.{◌+◌, ◌<◌, ap, arith}
use Rattle.fidl_table_format.specs.declared.record.Entry.{Entry}
use Rattle.fidl_table_format.specs.declared.kind.EntryKind.TheVariants.{Struct}
use Rattle.fidl_table_format.specs.Section.{header_of}
use Rattle.fidl_decode_model.proofs.Bridge.{fine_of}
use Rattle.fidl_decode_model.proofs.Visiting.{fine_as}
use Rattle.fidl_members.proofs.column.Column.find.Goals as goal

pub overflow_add-parts : goal.overflow_add-parts
overflow_add-parts c =
    let t = c.args.table.now in
    let w = c.entry-parts.ensures.well_formed in
    let counted = ap (λ (e : Entry). e.count) c.entry-parts.ensures.value in
    let begun = ap (λ (e : Entry). e.first) c.entry-parts.ensures.value in
    let inside = (fine_as t (fine_of t w) c.args.entry Struct c.requires c.in-Struct.ensures.of).content.0 in
    record { fits = omega (arith, inside, counted, begun, c.if-at-parts.false, c.rows-rows.ensures.value) }

pub row-requires : goal.row-requires
row-requires c =
    let t = c.args.table.now in
    let w = c.entry-parts.ensures.well_formed in
    let counted = ap (λ (e : Entry). e.count) c.entry-parts.ensures.value in
    let begun = ap (λ (e : Entry). e.first) c.entry-parts.ensures.value in
    let inside = (fine_as t (fine_of t w) c.args.entry Struct c.requires c.in-Struct.ensures.of).content.0 in
    let below : c.entry-parts.result.first + c.args.at < (header_of t).rows = omega (arith, inside, counted, begun, c.if-at-parts.false) in
    below
