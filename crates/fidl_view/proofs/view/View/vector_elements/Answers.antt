use Rattle.std.proofs.Common.{◌≡◌, ℕ, ◌+◌, ◌*◌, ◌<◌, List, length, refl, ap, sym, subst, ◌∙◌, arith}
use Rattle.std.specs.Int.{w64}
use Rattle.std.proofs.Math.Logic.{∥∥₁_map, ∥∥₁_elim}
use Rattle.std.proofs.Math.Bridge.{le_prop}
use denote.Struct.Props.{props}
use Rattle.fidl_table_format.specs.declared.record.Entry.{Entry}
use Rattle.fidl_table_format.specs.Section.{header_of, entry_at}
use Rattle.fidl_wire.specs.Field.{number_at}
use Rattle.fidl_table_format.specs.WellFormed.{WellFormed}
use Rattle.fidl_decode_model.specs.Links.{Linked}
use Rattle.fidl_decode_model.specs.Placed.{object_at}
use Rattle.fidl_view.proofs.Viewing as viewing
use Rattle.fidl_view.proofs.Lists as lists
use Rattle.fidl_view.proofs.Blank as blank
use Rattle.fidl_view.proofs.Unlinked as unlinked
use Rattle.fidl_view.proofs.view.View.vector_elements.Goals as goal

pub is_blank-requires : goal.is_blank-requires
is_blank-requires c =
    let d = c.args.self.decoded.now in
    let i = c.args.self.index in
    let p = c.args.self.place in
    let lt = c.args.self.in_range in
    let is = c.requires in
    let w : WellFormed d.table = subst (λ (b : List ℕ). WellFormed b) c.table.ensures c.entry-vector.ensures.well_formed in
    let wide = viewing.vector_size d w i p lt is in
    let long = ap length c.links-links.ensures.came in
    record {
      aligned = blank.aligned d w i p lt c.links-links.result.now c.links-links.ensures.came c.links-links.ensures.noted (p + 8) (viewing.vector_marks d w i p lt is) c.args.self.shown;
      within = omega (arith, wide, long, c.args.self.room);
    }

pub returns-then-is_blank-clause-parts : goal.returns-then-is_blank-clause-parts
returns-then-is_blank-clause-parts c v s =
    let d = c.args.self.decoded.now in
    let i = c.args.self.index in
    let p = c.args.self.place in
    let lt = c.args.self.in_range in
    let is = c.requires in
    let w : WellFormed d.table = subst (λ (b : List ℕ). WellFormed b) c.table.ensures c.entry-vector.ensures.well_formed in
    lists.no_vector v (blank.absent d w i p lt c.links-links.result.now c.links-links.ensures.came c.links-links.ensures.noted (p + 8) (viewing.vector_marks d w i p lt is) c.is_blank.result c.is_blank.ensures c.if-is_blank.true v s)

pub u64_at-count-requires : goal.u64_at-count-requires
u64_at-count-requires c =
    let d = c.args.self.decoded.now in
    let i = c.args.self.index in
    let p = c.args.self.place in
    let lt = c.args.self.in_range in
    let is = c.requires in
    let w : WellFormed d.table = subst (λ (b : List ℕ). WellFormed b) c.table.ensures c.entry-vector.ensures.well_formed in
    let wide = viewing.vector_size d w i p lt is in
    let long = ap length c.links-links.ensures.came in
    record {
      room = omega (arith, wide, long, c.args.self.room);
      free = ∥∥₁_elim c.args.self.shown (hlevel props) (λ h. unlinked.free c.links-links.result.now d.bytes d.links c.links-links.ensures.came c.links-links.ensures.noted p (p + 8) (viewing.vector_count_free d w i p lt is h.0 h.1));
    }

pub object_of_marker-requires : goal.object_of_marker-requires
object_of_marker-requires c =
    let d = c.args.self.decoded.now in
    let i = c.args.self.index in
    let p = c.args.self.place in
    let lt = c.args.self.in_range in
    let is = c.requires in
    let w : WellFormed d.table = subst (λ (b : List ℕ). WellFormed b) c.table.ensures c.entry-vector.ensures.well_formed in
    let wide = viewing.vector_size d w i p lt is in
    let long = ap length c.links-links.ensures.came in
    let some = blank.there d w i p lt c.links-links.result.now c.links-links.ensures.came c.links-links.ensures.noted (p + 8) (viewing.vector_marks d w i p lt is) c.is_blank.result c.is_blank.ensures c.if-is_blank.false in
    let there = blank.linked d w i p lt c.links-links.result.now c.links-links.ensures.came c.links-links.ensures.noted (p + 8) (viewing.vector_marks d w i p lt is) c.args.self.shown some in
    record {
      aligned = blank.aligned d w i p lt c.links-links.result.now c.links-links.ensures.came c.links-links.ensures.noted (p + 8) (viewing.vector_marks d w i p lt is) c.args.self.shown;
      within = omega (arith, wide, long, c.args.self.room);
      present = there.0;
      linked = there.1;
    }

pub invariant_of-result : goal.invariant_of-result
invariant_of-result c =
    let d = c.args.self.decoded.now in
    let i = c.args.self.index in
    let p = c.args.self.place in
    let lt = c.args.self.in_range in
    let is = c.requires in
    let w : WellFormed d.table = subst (λ (b : List ℕ). WellFormed b) c.table.ensures c.entry-vector.ensures.well_formed in
    let same : c.entry-vector.result ≡ entry_at d.table i = c.entry-vector.ensures.value ∙ ap (λ (b : List ℕ). entry_at b i) c.table.ensures in
    let begun : c.entry-vector.result.first ≡ (entry_at d.table i).first = ap (λ (e : Entry). e.first) same in
    let own : c.entry-element.result ≡ entry_at d.table c.entry-vector.result.first = c.entry-element.ensures.value ∙ ap (λ (b : List ℕ). entry_at b c.entry-vector.result.first) c.table-2.ensures in
    let sized : c.entry-element.result.size ≡ (entry_at d.table c.entry-vector.result.first).size = ap (λ (e : Entry). e.size) own in
    let some = blank.there d w i p lt c.links-links.result.now c.links-links.ensures.came c.links-links.ensures.noted (p + 8) (viewing.vector_marks d w i p lt is) c.is_blank.result c.is_blank.ensures c.if-is_blank.false in
    let n : c.u64_at-count.result ≡ number_at w64 d.bytes p = c.u64_at-count.ensures ∙ ap (λ (b : List ℕ). number_at w64 b p) c.links-links.ensures.came in
    let none : c.entry-element.result.size * 0 ≡ 0 = omega arith in
    record {
      in_range = subst (λ k. k < (header_of d.table).entries) (sym begun) (lists.vector_element d w i p lt is);
      sized = sized;
      room = omega (arith, none, c.args.self.room);
      short = c.args.self.short;
      shown = ∥∥₁_map c.args.self.shown (λ h. let x = lists.vector_read d w i p lt is c.entry-vector.result.first c.entry-element.result.size (object_at d.links (p + 8)) c.u64_at-count.result begun sized refl n h.0 (some h.0 h.1) h.1 in
          (x.0, lists.no_parts d c.entry-vector.result.first c.entry-element.result.size (object_at d.links (p + 8)) p c.u64_at-count.result x.0 c.if-count-eq0.true x.2));
    }

pub returns-then-count-eq0-clause-run : goal.returns-then-count-eq0-clause-run
returns-then-count-eq0-clause-run c =
    let d = c.args.self.decoded.now in
    let i = c.args.self.index in
    let p = c.args.self.place in
    let lt = c.args.self.in_range in
    let is = c.requires in
    let w : WellFormed d.table = subst (λ (b : List ℕ). WellFormed b) c.table.ensures c.entry-vector.ensures.well_formed in
    let same : c.entry-vector.result ≡ entry_at d.table i = c.entry-vector.ensures.value ∙ ap (λ (b : List ℕ). entry_at b i) c.table.ensures in
    let begun : c.entry-vector.result.first ≡ (entry_at d.table i).first = ap (λ (e : Entry). e.first) same in
    let n : c.u64_at-count.result ≡ number_at w64 d.bytes p = c.u64_at-count.ensures ∙ ap (λ (b : List ℕ). number_at w64 b p) c.links-links.ensures.came in
    record {
      message = refl;
      typed = lists.vector_typed d w i p lt is c.entry-vector.result.first begun;
      counted = lists.vector_counted d w i p lt is 0 (sym c.if-count-eq0.true ∙ n);
      placed = λ less. absurd (omega (arith, less));
    }

pub returns-then-count-eq0-clause-parts : goal.returns-then-count-eq0-clause-parts
returns-then-count-eq0-clause-parts c v s =
    let d = c.args.self.decoded.now in
    let i = c.args.self.index in
    let p = c.args.self.place in
    let lt = c.args.self.in_range in
    let is = c.requires in
    let w : WellFormed d.table = subst (λ (b : List ℕ). WellFormed b) c.table.ensures c.entry-vector.ensures.well_formed in
    let same : c.entry-vector.result ≡ entry_at d.table i = c.entry-vector.ensures.value ∙ ap (λ (b : List ℕ). entry_at b i) c.table.ensures in
    let begun : c.entry-vector.result.first ≡ (entry_at d.table i).first = ap (λ (e : Entry). e.first) same in
    let own : c.entry-element.result ≡ entry_at d.table c.entry-vector.result.first = c.entry-element.ensures.value ∙ ap (λ (b : List ℕ). entry_at b c.entry-vector.result.first) c.table-2.ensures in
    let sized : c.entry-element.result.size ≡ (entry_at d.table c.entry-vector.result.first).size = ap (λ (e : Entry). e.size) own in
    let some = blank.there d w i p lt c.links-links.result.now c.links-links.ensures.came c.links-links.ensures.noted (p + 8) (viewing.vector_marks d w i p lt is) c.is_blank.result c.is_blank.ensures c.if-is_blank.false in
    let n : c.u64_at-count.result ≡ number_at w64 d.bytes p = c.u64_at-count.ensures ∙ ap (λ (b : List ℕ). number_at w64 b p) c.links-links.ensures.came in
    let x = lists.vector_read d w i p lt is c.entry-vector.result.first c.entry-element.result.size (object_at d.links (p + 8)) c.u64_at-count.result begun sized refl n v (some v s) s in
    (x.0, x.1, lists.no_parts d c.entry-vector.result.first c.entry-element.result.size (object_at d.links (p + 8)) p c.u64_at-count.result x.0 c.if-count-eq0.true x.2)

pub invariant_of-result-2 : goal.invariant_of-result-2
invariant_of-result-2 c =
    let d = c.args.self.decoded.now in
    let i = c.args.self.index in
    let p = c.args.self.place in
    let lt = c.args.self.in_range in
    let is = c.requires in
    let w : WellFormed d.table = subst (λ (b : List ℕ). WellFormed b) c.table.ensures c.entry-vector.ensures.well_formed in
    let same : c.entry-vector.result ≡ entry_at d.table i = c.entry-vector.ensures.value ∙ ap (λ (b : List ℕ). entry_at b i) c.table.ensures in
    let begun : c.entry-vector.result.first ≡ (entry_at d.table i).first = ap (λ (e : Entry). e.first) same in
    let own : c.entry-element.result ≡ entry_at d.table c.entry-vector.result.first = c.entry-element.ensures.value ∙ ap (λ (b : List ℕ). entry_at b c.entry-vector.result.first) c.table-2.ensures in
    let sized : c.entry-element.result.size ≡ (entry_at d.table c.entry-vector.result.first).size = ap (λ (e : Entry). e.size) own in
    let some = blank.there d w i p lt c.links-links.result.now c.links-links.ensures.came c.links-links.ensures.noted (p + 8) (viewing.vector_marks d w i p lt is) c.is_blank.result c.is_blank.ensures c.if-is_blank.false in
    let f : c.object_of_marker.result ≡ object_at d.links (p + 8) = c.object_of_marker.ensures ∙ ap (λ (l : Linked). object_at l (p + 8)) c.links-links.ensures.noted in
    let n : c.u64_at-count.result ≡ number_at w64 d.bytes p = c.u64_at-count.ensures ∙ ap (λ (b : List ℕ). number_at w64 b p) c.links-links.ensures.came in
    let begins = subst (λ k. k < (header_of d.table).entries) (sym begun) (lists.vector_element d w i p lt is) in
    record {
      in_range = subst (λ k. k < (header_of d.table).entries) (sym begun) (lists.vector_element d w i p lt is);
      sized = sized;
      room = ∥∥₁_elim c.args.self.shown le_prop (λ h. let x = lists.vector_read d w i p lt is c.entry-vector.result.first c.entry-element.result.size c.object_of_marker.result c.u64_at-count.result begun sized f n h.0 (some h.0 h.1) h.1 in
          lists.run_room d w c.entry-vector.result.first c.entry-element.result.size c.object_of_marker.result c.u64_at-count.result x.0 begins sized c.if-count-eq0.false x.2);
      short = c.args.self.short;
      shown = ∥∥₁_map c.args.self.shown (λ h. let x = lists.vector_read d w i p lt is c.entry-vector.result.first c.entry-element.result.size c.object_of_marker.result c.u64_at-count.result begun sized f n h.0 (some h.0 h.1) h.1 in (x.0, x.2));
    }

pub returns-clause-run : goal.returns-clause-run
returns-clause-run c =
    let d = c.args.self.decoded.now in
    let i = c.args.self.index in
    let p = c.args.self.place in
    let lt = c.args.self.in_range in
    let is = c.requires in
    let w : WellFormed d.table = subst (λ (b : List ℕ). WellFormed b) c.table.ensures c.entry-vector.ensures.well_formed in
    let same : c.entry-vector.result ≡ entry_at d.table i = c.entry-vector.ensures.value ∙ ap (λ (b : List ℕ). entry_at b i) c.table.ensures in
    let begun : c.entry-vector.result.first ≡ (entry_at d.table i).first = ap (λ (e : Entry). e.first) same in
    let f : c.object_of_marker.result ≡ object_at d.links (p + 8) = c.object_of_marker.ensures ∙ ap (λ (l : Linked). object_at l (p + 8)) c.links-links.ensures.noted in
    let n : c.u64_at-count.result ≡ number_at w64 d.bytes p = c.u64_at-count.ensures ∙ ap (λ (b : List ℕ). number_at w64 b p) c.links-links.ensures.came in
    record {
      message = refl;
      typed = lists.vector_typed d w i p lt is c.entry-vector.result.first begun;
      counted = lists.vector_counted d w i p lt is c.u64_at-count.result n;
      placed = λ less. lists.vector_placed d w i p lt is c.object_of_marker.result f;
    }

pub returns-clause-parts : goal.returns-clause-parts
returns-clause-parts c v s =
    let d = c.args.self.decoded.now in
    let i = c.args.self.index in
    let p = c.args.self.place in
    let lt = c.args.self.in_range in
    let is = c.requires in
    let w : WellFormed d.table = subst (λ (b : List ℕ). WellFormed b) c.table.ensures c.entry-vector.ensures.well_formed in
    let same : c.entry-vector.result ≡ entry_at d.table i = c.entry-vector.ensures.value ∙ ap (λ (b : List ℕ). entry_at b i) c.table.ensures in
    let begun : c.entry-vector.result.first ≡ (entry_at d.table i).first = ap (λ (e : Entry). e.first) same in
    let own : c.entry-element.result ≡ entry_at d.table c.entry-vector.result.first = c.entry-element.ensures.value ∙ ap (λ (b : List ℕ). entry_at b c.entry-vector.result.first) c.table-2.ensures in
    let sized : c.entry-element.result.size ≡ (entry_at d.table c.entry-vector.result.first).size = ap (λ (e : Entry). e.size) own in
    let some = blank.there d w i p lt c.links-links.result.now c.links-links.ensures.came c.links-links.ensures.noted (p + 8) (viewing.vector_marks d w i p lt is) c.is_blank.result c.is_blank.ensures c.if-is_blank.false in
    let f : c.object_of_marker.result ≡ object_at d.links (p + 8) = c.object_of_marker.ensures ∙ ap (λ (l : Linked). object_at l (p + 8)) c.links-links.ensures.noted in
    let n : c.u64_at-count.result ≡ number_at w64 d.bytes p = c.u64_at-count.ensures ∙ ap (λ (b : List ℕ). number_at w64 b p) c.links-links.ensures.came in
    lists.vector_read d w i p lt is c.entry-vector.result.first c.entry-element.result.size c.object_of_marker.result c.u64_at-count.result begun sized f n v (some v s) s

pub entry-element-requires : goal.entry-element-requires
entry-element-requires c =
    let d = c.args.self.decoded.now in
    let i = c.args.self.index in
    let p = c.args.self.place in
    let lt = c.args.self.in_range in
    let is = c.requires in
    let w : WellFormed d.table = subst (λ (b : List ℕ). WellFormed b) c.table.ensures c.entry-vector.ensures.well_formed in
    let same : c.entry-vector.result ≡ entry_at d.table i = c.entry-vector.ensures.value ∙ ap (λ (b : List ℕ). entry_at b i) c.table.ensures in
    let begun : c.entry-vector.result.first ≡ (entry_at d.table i).first = ap (λ (e : Entry). e.first) same in
    subst (λ (b : List ℕ). c.entry-vector.result.first < (header_of b).entries) (sym c.table-2.ensures)
    (subst (λ k. k < (header_of d.table).entries) (sym begun) (lists.vector_element d w i p lt is))
