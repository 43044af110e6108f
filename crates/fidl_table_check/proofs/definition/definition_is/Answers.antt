use Rattle.std.proofs.Common.{List, map, ap, refl, subst}
use Rattle.std.specs.Option.{option_map}
use Rattle.fidl_wire.specs.Term.{Term}
use Rattle.fidl_wire.specs.Term as ty
use Rattle.fidl_equivalence.specs.Alike.{Alike, AlikeFields, AlikeRows, IsNumbered}
use Rattle.fidl_equivalence.specs.Alike as like
use Rattle.fidl_ir.specs.declared.term.Field.{Field}
use Rattle.fidl_ir.specs.declared.term.Row.{Row}
use Rattle.fidl_ir.specs.Terms.{number_kind_view, fields_view, rows_view, definition_view}
use Rattle.fidl_reachable_types.specs.Growing.{reference_view}
use Rattle.fidl_table_format.specs.declared.kind.EntryKind.TheVariants as kinds
use Rattle.fidl_table_format.specs.Section.{header_of}
use Rattle.fidl_table_format.specs.Terms.{term_of, strict_values, fields_from, rows_from}
use Rattle.fidl_table_check.proofs.Levels.{level, rows_within}
use Rattle.fidl_table_check.proofs.definition.definition_is.Goals as goal

pub rows_are-requires-then-is_union : goal.rows_are-requires-then-is_union
rows_are-requires-then-is_union c =
    rows_within c.args.table.now c.entries-entries.ensures.well_formed c.args.entry.now c.requires kinds.Union (c.is_union.ensures.of_kind c.if-is_union.true) refl

pub returns-in-Bits : goal.returns-in-Bits
returns-in-Bits c = λ is.
    let R : Term → Term → Type 0 = λ t u. IsNumbered (map reference_view c.args.types.now) t u in
    let bytes = c.args.table.now in
    let one = ty.bits (number_kind_view c.in-Bits.kind) c.in-Bits.mask in
    level R (definition_view c.args.definition.now) (term_of bytes (header_of bytes) c.args.entry.now) one one (ap definition_view c.in-Bits.is) (c.is_bits.ensures is bytes (header_of bytes)) (like.bits refl refl)

pub returns-then-is_enum : goal.returns-then-is_enum
returns-then-is_enum c = λ is.
    let R : Term → Term → Type 0 = λ t u. IsNumbered (map reference_view c.args.types.now) t u in
    let bytes = c.args.table.now in
    let zs = option_map (λ vs. vs.items) c.in-Enum.values in
    let ws = strict_values bytes (header_of bytes) c.args.entry.now in
    let kind = number_kind_view c.in-Enum.kind in
    level R (definition_view c.args.definition.now) (term_of bytes (header_of bytes) c.args.entry.now) (ty.enum kind zs) (ty.enum kind ws) (ap definition_view c.in-Enum.is) (c.is_enum.ensures.declares c.if-is_enum.true bytes (header_of bytes)) (like.enum refl (c.has_values.ensures is))

pub returns-then-is_struct : goal.returns-then-is_struct
returns-then-is_struct c = λ is.
    let R : Term → Term → Type 0 = λ t u. IsNumbered (map reference_view c.args.types.now) t u in
    let bytes = c.args.table.now in
    let fs : List Field = c.in-Struct.fields.items in
    let gs = fields_from bytes (header_of bytes) c.args.entry.now.first c.args.entry.now.count in
    let alike : AlikeFields R (fields_view fs) gs = subst (λ l. AlikeFields R (fields_view l) gs) c.as_slice.ensures.value (c.fields_are.ensures is) in
    level R (definition_view c.args.definition.now) (term_of bytes (header_of bytes) c.args.entry.now) (ty.struct (fields_view fs)) (ty.struct gs) (ap definition_view c.in-Struct.is) (c.is_struct.ensures.declares c.if-is_struct.true bytes (header_of bytes)) (like.struct alike)

pub returns-then-is_table : goal.returns-then-is_table
returns-then-is_table c = λ is.
    let R : Term → Term → Type 0 = λ t u. IsNumbered (map reference_view c.args.types.now) t u in
    let bytes = c.args.table.now in
    let rows : List Row = c.in-Table.rows.items in
    let others = rows_from bytes (header_of bytes) c.args.entry.now.first c.args.entry.now.count in
    let alike : AlikeRows R (rows_view rows) others = subst (λ l. AlikeRows R (rows_view l) others) c.as_slice-then-is_table.ensures.value (c.rows_are.ensures is) in
    level R (definition_view c.args.definition.now) (term_of bytes (header_of bytes) c.args.entry.now) (ty.table (rows_view rows)) (ty.table others) (ap definition_view c.in-Table.is) (c.is_table.ensures.declares c.if-is_table.true bytes (header_of bytes)) (like.table alike)

pub returns-then-is_union : goal.returns-then-is_union
returns-then-is_union c = λ is.
    let R : Term → Term → Type 0 = λ t u. IsNumbered (map reference_view c.args.types.now) t u in
    let bytes = c.args.table.now in
    let rows : List Row = c.in-Union.rows.items in
    let o = c.in-Union.optional in
    let s = c.in-Union.strict in
    let others = rows_from bytes (header_of bytes) c.args.entry.now.first c.args.entry.now.count in
    let alike : AlikeRows R (rows_view rows) others = subst (λ l. AlikeRows R (rows_view l) others) c.as_slice-then-is_union.ensures.value (c.rows_are-then-is_union.ensures is) in
    level R (definition_view c.args.definition.now) (term_of bytes (header_of bytes) c.args.entry.now) (ty.union o s (rows_view rows)) (ty.union o s others) (ap definition_view c.in-Union.is) (c.is_union.ensures.declares c.if-is_union.true bytes (header_of bytes)) (like.union refl refl alike)
