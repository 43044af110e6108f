use Rattle.std.proofs.Common.{◌≡◌, ℕ, suc, ◌+◌, ◌-◌, ◌<◌, ◌∷◌, List, sym, ap, subst, ◌∙◌, arith}
use Rattle.fidl_table_format.specs.declared.record.Row.{Row}
use Rattle.fidl_table_format.specs.Section.{header_of, entry_at, row_at}
use Rattle.fidl_table_format.specs.WellFormed.{WellFormed}
use Rattle.fidl_decode_model.specs.Model.{Shown}
use Rattle.fidl_view.specs.Elements.{part}
use Rattle.fidl_view.specs.Fields.{parts_of_rows}
use Rattle.fidl_view.specs.Views.{part_of}
use Rattle.fidl_view.proofs.FieldParts.{fields_next}
use Rattle.fidl_view.proofs.MemberPlaces as places
use Rattle.fidl_view.proofs.fields.FieldsIterator.next.Goals as goal

pub overflow_add-self : goal.overflow_add-self
overflow_add-self c =
    let s = c.args.self.now in
    let m = s.members in
    let d = m.decoded.now in
    let same : c.table-table.result.now ≡ d.table = c.table-table.ensures ∙ ap (λ (x : Shown). x.table) c.decoded.ensures in
    let w = subst (λ (b : List ℕ). WellFormed b) same c.rows-rows.ensures.well_formed in
    let less : s.next < (entry_at d.table m.index).count = omega (arith, s.order, s.counted, c.if-self.false) in
    let inside = places.row_in_range d w m.index m.place m.in_range m.of_struct s.next less in
    let rows : c.rows-rows.result ≡ (header_of d.table).rows = c.rows-rows.ensures.value ∙ ap (λ (b : List ℕ). (header_of b).rows) same in
    record { fits = omega (arith, inside, s.begun, rows) }

pub row-row-requires : goal.row-row-requires
row-row-requires c =
    let s = c.args.self.now in
    let m = s.members in
    let d = m.decoded.now in
    let same : c.table-table.result.now ≡ d.table = c.table-table.ensures ∙ ap (λ (x : Shown). x.table) c.decoded.ensures in
    let w = subst (λ (b : List ℕ). WellFormed b) same c.rows-rows.ensures.well_formed in
    let less : s.next < (entry_at d.table m.index).count = omega (arith, s.order, s.counted, c.if-self.false) in
    let inside = places.row_in_range d w m.index m.place m.in_range m.of_struct s.next less in
    subst (λ (b : List ℕ). s.first + s.next < (header_of b).rows) (sym same) (subst (λ k. k + s.next < (header_of d.table).rows) (sym s.begun) inside)

pub returns-clause-steps : goal.returns-clause-steps
returns-clause-steps c =
    let s = c.args.self.now in
    let m = s.members in
    let d = m.decoded.now in
    let at = s.first + s.next in
    let same : c.table-table.result.now ≡ d.table = c.table-table.ensures ∙ ap (λ (x : Shown). x.table) c.decoded.ensures in
    let own : c.row-row.result ≡ row_at d.table (header_of d.table) at = c.row-row.ensures.value ∙ ap (λ (b : List ℕ). row_at b (header_of b) at) same in
    let r = row_at d.table (header_of d.table) at in
    let message = sym c.part-part.ensures.message in
    let entry = sym (c.part-part.ensures.entry ∙ ap (λ (x : Row). x.entry) own) in
    let place = sym (c.part-part.ensures.place ∙ ap (λ (x : Row). m.place + x.key) own) in
    let head : part d r.entry (m.place + r.key) ≡ part_of c.part-part.result = λ i. part (message i) (entry i) (place i) in
    let behind : suc at ≡ s.first + (s.next + 1) = omega arith in
    let left : s.count - s.next - 1 ≡ s.count - (s.next + 1) = omega arith in
    let some : s.count - s.next ≡ 0 → ⊥ = λ none. c.if-self.false (omega (arith, none, s.order)) in
    fields_next d at m.place (s.count - s.next) some ∙ (λ i. head i ∷ parts_of_rows d (behind i) m.place (left i))
