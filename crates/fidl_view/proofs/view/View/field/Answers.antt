use Rattle.fidl_view.proofs.Types.{field_of_row}
use Rattle.fidl_view.specs.Views.{type_shown, types_shown}
use Rattle.fidl_view.specs.Members.{struct_of, field_at, fields_at}
use Rattle.fidl_decode_model.specs.Model.{Shown}
use Rattle.fidl_table_format.specs.Terms.{declarations_of}
use Rattle.fidl_wire.specs.Term.{Fields, fields_of, resolve}
use Rattle.std.specs.Option.{option_map}
use Rattle.std.specs.Prelude.{Some}
use Rattle.std.proofs.Common.{◌≡◌, ℕ, ◌+◌, ◌<◌, List, length, ap, sym, subst, ◌∙◌, arith}
use Rattle.fidl_wire.specs.Value.{Value}
use Rattle.fidl_table_format.specs.declared.record.Entry.{Entry}
use Rattle.fidl_table_format.specs.declared.record.Row.{Row}
use Rattle.fidl_table_format.specs.Section.{header_of, entry_at, row_at, row_place}
use Rattle.fidl_table_format.specs.WellFormed.{WellFormed}
use Rattle.fidl_view.specs.Parts.{field_of}
use Rattle.fidl_view.specs.Shows.{type_of}
use Rattle.fidl_view.proofs.MemberPlaces as places
use Rattle.fidl_view.proofs.view.View.field.Goals as goal

pub returns-then-at-entry-clause-part : goal.returns-then-at-entry-clause-part
returns-then-at-entry-clause-part c v h =
    let m = c.in-Some.members in
    let d = m.decoded.now in
    let w : WellFormed d.table = subst (λ (b : List ℕ). WellFormed b) c.table-table.ensures c.entry-entry.ensures.well_formed in
    let same : c.entry-entry.result ≡ entry_at d.table m.index = c.entry-entry.ensures.value ∙ ap (λ (b : List ℕ). entry_at b m.index) c.table-table.ensures in
    let counted : c.entry-entry.result.count ≡ (entry_at d.table m.index).count = ap (λ (e : Entry). e.count) same in
    let x = c.in-Some.ensures.members v h in
    ap (λ (u : Value). field_of u c.args.at) x.1 ∙ places.no_member d w m.index m.place m.in_range m.of_struct c.args.at (omega (arith, c.if-at-entry.true, counted)) x.0 x.2

pub row_from-row-requires : goal.row_from-row-requires
row_from-row-requires c =
    let m = c.in-Some.members in
    let d = m.decoded.now in
    let w : WellFormed d.table = subst (λ (b : List ℕ). WellFormed b) c.table-table.ensures c.entry-entry.ensures.well_formed in
    let same : c.entry-entry.result ≡ entry_at d.table m.index = c.entry-entry.ensures.value ∙ ap (λ (b : List ℕ). entry_at b m.index) c.table-table.ensures in
    let counted : c.entry-entry.result.count ≡ (entry_at d.table m.index).count = ap (λ (e : Entry). e.count) same in
    let begun : c.entry-entry.result.first ≡ (entry_at d.table m.index).first = ap (λ (e : Entry). e.first) same in
    let less : c.args.at < (entry_at d.table m.index).count = omega (arith, c.if-at-entry.false, counted) in
    let start : c.rows_start.result ≡ row_place (header_of d.table) 0 = c.rows_start.ensures.value ∙ ap (λ (b : List ℕ). row_place (header_of b) 0) c.table-table.ensures in
    let bytes : c.bytes.result.now ≡ d.table = c.bytes.ensures.value ∙ c.table-table.ensures in
    let within = places.row_within d w m.index m.place m.in_range m.of_struct c.args.at less in
    omega (arith, within, begun, start, ap length bytes)

pub part-requires-clause-row : goal.part-requires-clause-row
part-requires-clause-row c =
    let m = c.in-Some.members in
    let d = m.decoded.now in
    let same : c.entry-entry.result ≡ entry_at d.table m.index = c.entry-entry.ensures.value ∙ ap (λ (b : List ℕ). entry_at b m.index) c.table-table.ensures in
    let begun : c.entry-entry.result.first ≡ (entry_at d.table m.index).first = ap (λ (e : Entry). e.first) same in
    let start : c.rows_start.result ≡ row_place (header_of d.table) 0 = c.rows_start.ensures.value ∙ ap (λ (b : List ℕ). row_place (header_of b) 0) c.table-table.ensures in
    let bytes : c.bytes.result.now ≡ d.table = c.bytes.ensures.value ∙ c.table-table.ensures in
    let at_row = (entry_at d.table m.index).first + c.args.at in
    let here : c.row_from-row.result ≡ row_at d.table (header_of d.table) at_row = c.row_from-row.ensures (header_of d.table) at_row (omega (arith, begun, start)) ∙ ap (λ (b : List ℕ). row_at b (header_of d.table) at_row) bytes in
    here

pub returns-clause-part : goal.returns-clause-part
returns-clause-part c v h =
    let y = c.in-Some.ensures.members v h in
    let x = c.part.ensures.part v y in
    let same : field_of v c.args.at ≡ Some x.0 = x.1 in
    (x.0, same, x.2)

pub returns-clause-typed : goal.returns-clause-typed
returns-clause-typed c =
    let m = c.in-Some.members in
    let d = m.decoded.now in
    let terms = (declarations_of d.table).terms in
    let same : c.entry-entry.result ≡ entry_at d.table m.index = c.entry-entry.ensures.value ∙ ap (λ (b : List ℕ). entry_at b m.index) c.table-table.ensures in
    let counted : c.entry-entry.result.count ≡ (entry_at d.table m.index).count = ap (λ (e : Entry). e.count) same in
    let begun : c.entry-entry.result.first ≡ (entry_at d.table m.index).first = ap (λ (e : Entry). e.first) same in
    let less : c.args.at < (entry_at d.table m.index).count = omega (arith, c.if-at-entry.false, counted) in
    let start : c.rows_start.result ≡ row_place (header_of d.table) 0 = c.rows_start.ensures.value ∙ ap (λ (b : List ℕ). row_place (header_of b) 0) c.table-table.ensures in
    let bytes : c.bytes.result.now ≡ d.table = c.bytes.ensures.value ∙ c.table-table.ensures in
    let at_row = (entry_at d.table m.index).first + c.args.at in
    let here : c.row_from-row.result ≡ row_at d.table (header_of d.table) at_row = c.row_from-row.ensures (header_of d.table) at_row (omega (arith, begun, start)) ∙ ap (λ (b : List ℕ). row_at b (header_of d.table) at_row) bytes in
    let found = field_of_row d.table (header_of d.table) (entry_at d.table m.index).first (entry_at d.table m.index).count c.args.at less in
    let held : Some (type_of d c.row_from-row.result.entry) ≡ option_map (resolve terms) (field_at (fields_at d m.index) c.args.at)
    = ap (λ (r : Row). Some (type_of d r.entry)) here ∙ sym (ap (option_map (resolve terms)) found) in
    let fields : Some (type_of d c.row_from-row.result.entry) ≡ option_map (resolve terms) (field_at (fields_of (struct_of (declarations_of c.args.self.decoded.now.table) (type_shown c.args.self))) c.args.at)
    = held ∙ ap (λ (fs : Fields). option_map (resolve terms) (field_at fs c.args.at)) (sym c.in-Some.ensures.of) in
    let mine : Some (type_shown c.part.result) ≡ Some (type_of d c.row_from-row.result.entry)
    = ap (λ (s : Shown). Some (type_of s c.part.result.index)) c.part.ensures.message ∙ ap (λ k. Some (type_of d k)) c.part.ensures.entry in
    mine ∙ fields ∙ ap (λ (s : Shown). option_map (resolve (declarations_of s.table).terms) (field_at (fields_of (struct_of (types_shown c.args.self) (type_shown c.args.self))) c.args.at)) c.in-Some.ensures.message
