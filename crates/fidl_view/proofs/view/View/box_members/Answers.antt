use Rattle.fidl_view.specs.Members.{struct_of, fields_at}
use Rattle.fidl_wire.specs.Term.{Term, fields_of}
use Rattle.std.proofs.Common.{◌≡◌, ℕ, ◌<◌, List, ap, sym, subst, ◌∙◌, length, arith}
use Rattle.std.proofs.Math.Logic.{∥∥₁_map}
use Rattle.fidl_table_format.specs.declared.record.Entry.{Entry}
use Rattle.fidl_table_format.specs.declared.kind.EntryKind.TheVariants.{Struct, Box}
use Rattle.fidl_table_format.specs.Section.{header_of, entry_at}
use Rattle.fidl_table_format.specs.Terms.{declarations_of}
use Rattle.fidl_table_format.specs.WellFormed.{WellFormed}
use Rattle.fidl_table_format.specs.Entry.{IsOf}
use Rattle.fidl_view.specs.Members.{ShowMembers}
use Rattle.fidl_decode_model.specs.Links.{Linked}
use Rattle.fidl_decode_model.specs.Placed.{object_at}
use Rattle.fidl_view.proofs.Viewing as viewing
use Rattle.fidl_view.proofs.MemberPlaces as places
use Rattle.fidl_view.proofs.Blank as blank
use Rattle.fidl_view.proofs.view.View.box_members.Goals as goal

pub is_blank-requires : goal.is_blank-requires
is_blank-requires c =
    let d = c.args.self.decoded.now in
    let i = c.args.self.index in
    let p = c.args.self.place in
    let lt = c.args.self.in_range in
    let w = subst (λ (b : List ℕ). WellFormed b) c.table.ensures c.entry-content.ensures.well_formed in
    let wide = viewing.box_size d w i p lt c.requires in
    let long = ap length c.links.ensures.came in
    record {
      aligned = blank.aligned d w i p lt c.links.result.now c.links.ensures.came c.links.ensures.noted p (viewing.box_marks d w i p lt c.requires) c.args.self.shown;
      within = omega (arith, wide, long, c.args.self.room);
    }

pub returns-then-is_blank-clause-members : goal.returns-then-is_blank-clause-members
returns-then-is_blank-clause-members c v h =
    let d = c.args.self.decoded.now in
    let i = c.args.self.index in
    let p = c.args.self.place in
    let lt = c.args.self.in_range in
    let w = subst (λ (b : List ℕ). WellFormed b) c.table.ensures c.entry-content.ensures.well_formed in
    places.no_box v (blank.absent d w i p lt c.links.result.now c.links.ensures.came c.links.ensures.noted p (viewing.box_marks d w i p lt c.requires) c.is_blank.result c.is_blank.ensures c.if-is_blank.true v h)

pub object_of_marker-requires : goal.object_of_marker-requires
object_of_marker-requires c =
    let d = c.args.self.decoded.now in
    let i = c.args.self.index in
    let p = c.args.self.place in
    let lt = c.args.self.in_range in
    let w = subst (λ (b : List ℕ). WellFormed b) c.table.ensures c.entry-content.ensures.well_formed in
    let wide = viewing.box_size d w i p lt c.requires in
    let long = ap length c.links-2.ensures.came in
    let some = blank.there d w i p lt c.links.result.now c.links.ensures.came c.links.ensures.noted p (viewing.box_marks d w i p lt c.requires) c.is_blank.result c.is_blank.ensures c.if-is_blank.false in
    let there = blank.linked d w i p lt c.links-2.result.now c.links-2.ensures.came c.links-2.ensures.noted p (viewing.box_marks d w i p lt c.requires) c.args.self.shown some in
    record {
      aligned = blank.aligned d w i p lt c.links-2.result.now c.links-2.ensures.came c.links-2.ensures.noted p (viewing.box_marks d w i p lt c.requires) c.args.self.shown;
      within = omega (arith, wide, long, c.args.self.room);
      present = there.0;
      linked = there.1;
    }

pub invariant_of-result : goal.invariant_of-result
invariant_of-result c =
    let d = c.args.self.decoded.now in
    let i = c.args.self.index in
    let p = c.args.self.place in
    let lt = c.args.self.in_range in
    let w = subst (λ (b : List ℕ). WellFormed b) c.table.ensures c.entry-content.ensures.well_formed in
    let is = c.requires in
    let b = places.box_struct d w i p lt is in
    let own : c.object_of_marker.result ≡ object_at d.links p = c.object_of_marker.ensures ∙ ap (λ (l : Linked). object_at l p) c.links-2.ensures.noted in
    let some = blank.there d w i p lt c.links.result.now c.links.ensures.came c.links.ensures.noted p (viewing.box_marks d w i p lt c.requires) c.is_blank.result c.is_blank.ensures c.if-is_blank.false in
    let begun : c.entry-content.result.first ≡ (entry_at d.table i).first = ap (λ (e : Entry). e.first) (c.entry-content.ensures.value ∙ ap (λ (b : List ℕ). entry_at b i) c.table.ensures) in
    record {
      in_range = subst (λ k. k < (header_of d.table).entries) (sym begun) b.0;
      of_struct = subst (λ k. IsOf Struct (entry_at d.table k)) (sym begun) b.1;
      short = c.args.self.short;
      shown = ∥∥₁_map c.args.self.shown (λ h. let x = places.box_shown d w i p lt is h.0 (some h.0 h.1) h.1 in
          (x.0, subst (λ k. ShowMembers d k c.object_of_marker.result x.0) (sym begun) (subst (λ k. ShowMembers d (entry_at d.table i).first k x.0) (sym own) x.2)));
    }

pub returns-clause-members : goal.returns-clause-members
returns-clause-members c v h =
    let d = c.args.self.decoded.now in
    let i = c.args.self.index in
    let p = c.args.self.place in
    let lt = c.args.self.in_range in
    let w = subst (λ (b : List ℕ). WellFormed b) c.table.ensures c.entry-content.ensures.well_formed in
    let is = c.requires in
    let b = places.box_struct d w i p lt is in
    let own : c.object_of_marker.result ≡ object_at d.links p = c.object_of_marker.ensures ∙ ap (λ (l : Linked). object_at l p) c.links-2.ensures.noted in
    let some = blank.there d w i p lt c.links.result.now c.links.ensures.came c.links.ensures.noted p (viewing.box_marks d w i p lt c.requires) c.is_blank.result c.is_blank.ensures c.if-is_blank.false v h in
    let begun : c.entry-content.result.first ≡ (entry_at d.table i).first = ap (λ (e : Entry). e.first) (c.entry-content.ensures.value ∙ ap (λ (b : List ℕ). entry_at b i) c.table.ensures) in
    let x = places.box_shown d w i p lt is v some h in
    (x.0, x.1, subst (λ k. ShowMembers d k c.object_of_marker.result x.0) (sym begun) (subst (λ k. ShowMembers d (entry_at d.table i).first k x.0) (sym own) x.2))

pub returns-clause-of : goal.returns-clause-of
returns-clause-of c =
    let d = c.args.self.decoded.now in
    let i = c.args.self.index in
    let p = c.args.self.place in
    let lt = c.args.self.in_range in
    let w = subst (λ (b : List ℕ). WellFormed b) c.table.ensures c.entry-content.ensures.well_formed in
    let is = c.requires in
    let ds = declarations_of d.table in
    let b = places.box_struct d w i p lt is in
    let f = (entry_at d.table i).first in
    let begun : c.entry-content.result.first ≡ f = ap (λ (e : Entry). e.first) (c.entry-content.ensures.value ∙ ap (λ (b : List ℕ). entry_at b i) c.table.ensures) in
    ap (λ (t : Term). fields_of (struct_of ds t)) (viewing.own_type d w i p lt Box is) ∙ ap fields_of (viewing.own_type d w f p b.0 Struct b.1) ∙ ap (λ k. fields_at d k) (sym begun)
