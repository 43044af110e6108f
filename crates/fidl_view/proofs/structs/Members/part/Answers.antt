use Rattle.std.proofs.Common.{◌∙◌, ℕ, ◌+◌, ◌<◌, ◌≤◌, List, length, ap, subst, sym, arith}
use Rattle.std.proofs.Math.Logic.{∥∥₁_map, ∥∥₁_elim}
use Rattle.std.proofs.Math.Bridge.{le_prop}
use Rattle.fidl_wire.specs.Value.{Value}
use Rattle.fidl_table_format.specs.declared.record.Row.{Row}
use Rattle.fidl_view.specs.Parts.{field_of}
use Rattle.fidl_table_format.specs.Section.{header_of, entry_at}
use Rattle.fidl_table_format.specs.WellFormed.{WellFormed}
use Rattle.fidl_verify.proofs.Owning.{row_entry}
use Rattle.fidl_view.specs.Shows.{Shows}
use Rattle.fidl_view.proofs.Lists as lists
use Rattle.fidl_view.proofs.MemberPlaces as places
use Rattle.fidl_view.proofs.structs.Members.part.Goals as goal

pub overflow_add-result : goal.overflow_add-result
overflow_add-result c =
    let m = c.args.self in
    let d = m.decoded.now in
    let r = c.args.row.now in
    let w = subst (λ (b : List ℕ). WellFormed b) c.table.ensures c.rows-rows.ensures.well_formed in
    let inside = places.row_in_range d w m.index m.place m.in_range m.of_struct c.args.at c.requires.counted in
    let range : r.entry < (header_of d.table).entries = subst (λ (x : Row). x.entry < (header_of d.table).entries) (sym c.requires.row) (row_entry d.table w _ inside) in
    let room : m.place + r.key + (entry_at d.table r.entry).size ≤ length d.bytes =
    ∥∥₁_elim m.shown le_prop (λ h. let x = places.member_shown d w m.index m.place m.in_range m.of_struct c.args.at c.requires.counted h.0 h.1 in
    lists.shows_room d w r.entry (m.place + r.key) x.0 range (subst (λ (x' : Row). Shows d x'.entry (m.place + x'.key) x.0) (sym c.requires.row) x.2)) in
    record { fits = omega (arith, room, m.short) }

pub invariant_of-result : goal.invariant_of-result
invariant_of-result c =
    let m = c.args.self in
    let d = m.decoded.now in
    let r = c.args.row.now in
    let w = subst (λ (b : List ℕ). WellFormed b) c.table.ensures c.rows-rows.ensures.well_formed in
    let inside = places.row_in_range d w m.index m.place m.in_range m.of_struct c.args.at c.requires.counted in
    let range : r.entry < (header_of d.table).entries = subst (λ (x : Row). x.entry < (header_of d.table).entries) (sym c.requires.row) (row_entry d.table w _ inside) in
    record {
      in_range = range;
      room = ∥∥₁_elim m.shown le_prop (λ h. let x = places.member_shown d w m.index m.place m.in_range m.of_struct c.args.at c.requires.counted h.0 h.1 in
          lists.shows_room d w r.entry (m.place + r.key) x.0 range (subst (λ (x' : Row). Shows d x'.entry (m.place + x'.key) x.0) (sym c.requires.row) x.2));
      short = m.short;
      shown = ∥∥₁_map m.shown (λ h. let x = places.member_shown d w m.index m.place m.in_range m.of_struct c.args.at c.requires.counted h.0 h.1 in
          (x.0, subst (λ (x' : Row). Shows d x'.entry (m.place + x'.key) x.0) (sym c.requires.row) x.2));
    }

pub returns-clause-part : goal.returns-clause-part
returns-clause-part c v h =
    let m = c.args.self in
    let d = m.decoded.now in
    let w = subst (λ (b : List ℕ). WellFormed b) c.table.ensures c.rows-rows.ensures.well_formed in
    let x = places.member_shown d w m.index m.place m.in_range m.of_struct c.args.at c.requires.counted h.0 h.2 in
    (x.0, ap (λ (u : Value). field_of u c.args.at) h.1 ∙ x.1, subst (λ (r : Row). Shows d r.entry (m.place + r.key) x.0) (sym c.requires.row) x.2)
