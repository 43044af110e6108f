use Rattle.std.proofs.Common.{◌≡◌, ℕ, ◌+◌, ◌-◌, List, ap, subst, ◌∙◌, arith}
use Rattle.fidl_table_format.specs.declared.record.Entry.{Entry}
use Rattle.fidl_table_format.specs.Section.{entry_at}
use Rattle.fidl_table_format.specs.WellFormed.{WellFormed}
use Rattle.fidl_decode_model.specs.Model.{Shown}
use Rattle.fidl_view.specs.Elements.{Part, ShowEach}
use Rattle.fidl_view.specs.Fields.{parts_of_rows}
use Rattle.fidl_view.proofs.FieldParts.{fields_shown}
use Rattle.fidl_view.proofs.MemberPlaces as places
use Rattle.fidl_view.proofs.structs.Members.fields.Goals as goal

pub returns-clause-shown : goal.returns-clause-shown
returns-clause-shown c v h =
    let m = c.args.self in
    let d = m.decoded.now in
    let own = entry_at d.table m.index in
    let same : c.table.result.now ≡ d.table = c.table.ensures ∙ ap (λ (x : Shown). x.table) c.decoded.ensures in
    let w = subst (λ (b : List ℕ). WellFormed b) same c.entry-entry.ensures.well_formed in
    let is : c.entry-entry.result ≡ own = c.entry-entry.ensures.value ∙ ap (λ k. entry_at c.table.result.now k) c.entry.ensures.value ∙ ap (λ (b : List ℕ). entry_at b m.index) same in
    let all = fields_shown d m.place own.count own.first h.0
    (λ i lt. places.member_shown d w m.index m.place m.in_range m.of_struct i lt h.0 h.2)
    (λ i le. places.no_member d w m.index m.place m.in_range m.of_struct i le h.0 h.2) in
    let first : own.first ≡ c.entry-entry.result.first + 0 = omega (arith, ap (λ (e : Entry). e.first) is) in
    let count : own.count ≡ c.entry-entry.result.count - 0 = omega (arith, ap (λ (e : Entry). e.count) is) in
    (h.0, h.1, subst (λ (ps : List Part). ShowEach ps h.0) (λ i. parts_of_rows d (first i) m.place (count i)) all)
