use Rattle.std.proofs.Common.{◌≡◌, ℕ, ◌+◌, ◌≤◌, arith, length, List, sym, subst, ap, ◌∙◌}
use Rattle.std.specs.Prelude.{Some, IsUtf8, slice_range}
use Rattle.std.specs.Int.{w64}
use Rattle.std.proofs.Math.Logic.{∥∥₁_map, ∥∥₁_elim}
use Rattle.std.proofs.Math.Bridge.{le_prop}
use denote.Struct.Props.{props}
use Rattle.std.proofs.lemmas.Str.{IsUtf8-had, IsUtf8-nil}
use Rattle.fidl_wire.specs.Field.{number_at}
use Rattle.fidl_table_format.specs.WellFormed.{WellFormed}
use Rattle.fidl_decode_model.specs.Links.{Linked}
use Rattle.fidl_decode_model.specs.Placed.{object_at}
use Rattle.fidl_decode_model.specs.Readable.{AreUnlinked}
use Rattle.fidl_view.proofs.Viewing as viewing
use Rattle.fidl_view.proofs.Content as content
use Rattle.fidl_view.proofs.Blank as blank
use Rattle.fidl_view.proofs.Unlinked as unlinked
use Rattle.fidl_view.proofs.view.View.string_bytes.Goals as goal

pub is_blank-requires : goal.is_blank-requires
is_blank-requires c =
    let d = c.args.self.decoded.now in
    let i = c.args.self.index in
    let p = c.args.self.place in
    let lt = c.args.self.in_range in
    let w = subst (λ (b : List ℕ). WellFormed b) c.table.ensures c.rows-rows.ensures.well_formed in
    let wide = viewing.string_size d w i p lt c.requires in
    let long = ap length c.links-links.ensures.came in
    record {
      aligned = blank.aligned d w i p lt c.links-links.result.now c.links-links.ensures.came c.links-links.ensures.noted (p + 8) (viewing.string_marks d w i p lt c.requires) c.args.self.shown;
      within = omega (arith, wide, long, c.args.self.room);
    }

pub returns-then-is_blank-clause-value : goal.returns-then-is_blank-clause-value
returns-then-is_blank-clause-value c v s =
    let d = c.args.self.decoded.now in
    let i = c.args.self.index in
    let p = c.args.self.place in
    let lt = c.args.self.in_range in
    let w = subst (λ (b : List ℕ). WellFormed b) c.table.ensures c.rows-rows.ensures.well_formed in
    content.no_text v (blank.absent d w i p lt c.links-links.result.now c.links-links.ensures.came c.links-links.ensures.noted (p + 8) (viewing.string_marks d w i p lt c.requires) c.is_blank.result c.is_blank.ensures c.if-is_blank.true v s)

pub returns-then-count-eq0 : goal.returns-then-count-eq0
returns-then-count-eq0 c =
    let d = c.args.self.decoded.now in
    let i = c.args.self.index in
    let p = c.args.self.place in
    let lt = c.args.self.in_range in
    let w = subst (λ (b : List ℕ). WellFormed b) c.table.ensures c.rows-rows.ensures.well_formed in
    let n : c.u64_at-count.result ≡ number_at w64 d.bytes p = c.u64_at-count.ensures ∙ ap (λ (b : List ℕ). number_at w64 b p) c.links-links.ensures.came in
    let some = blank.there d w i p lt c.links-links.result.now c.links-links.ensures.came c.links-links.ensures.noted (p + 8) (viewing.string_marks d w i p lt c.requires) c.is_blank.result c.is_blank.ensures c.if-is_blank.false in
    let zero : number_at w64 d.bytes p ≡ 0 = sym n ∙ c.if-count-eq0.true in
    record {
      value = λ v s. ap (λ (b : List ℕ). Some b) c.part.ensures ∙ (viewing.text_shown d w i p lt c.args.self.short c.requires v (some v s) s).empty zero;
      slice = c.part.ensures ∙ viewing.no_bytes_shown d w i p lt c.requires zero;
      utf8 = subst (λ (b : List ℕ). IsUtf8 b) (sym c.part.ensures) IsUtf8-nil;
    }

pub part-requires : goal.part-requires
part-requires c = record {
  order = omega arith;
  room = omega arith;
  free = λ k from to. absurd (omega (arith, from, to));
}

pub returns : goal.returns
returns c =
    let d = c.args.self.decoded.now in
    let i = c.args.self.index in
    let p = c.args.self.place in
    let lt = c.args.self.in_range in
    let w = subst (λ (b : List ℕ). WellFormed b) c.table.ensures c.rows-rows.ensures.well_formed in
    let n : c.u64_at-count.result ≡ number_at w64 d.bytes p = c.u64_at-count.ensures ∙ ap (λ (b : List ℕ). number_at w64 b p) c.links-links.ensures.came in
    let some = blank.there d w i p lt c.links-links.result.now c.links-links.ensures.came c.links-links.ensures.noted (p + 8) (viewing.string_marks d w i p lt c.requires) c.is_blank.result c.is_blank.ensures c.if-is_blank.false in
    let f : c.object_of_marker-from.result ≡ object_at d.links (p + 8) = c.object_of_marker-from.ensures ∙ ap (λ (l : Linked). object_at l (p + 8)) c.links-links.ensures.noted in
    let same : c.part-2.result.now ≡ slice_range d.bytes (object_at d.links (p + 8)) (object_at d.links (p + 8) + number_at w64 d.bytes p) = c.part-2.ensures ∙ (λ k. slice_range (c.links-links.ensures.came k) (f k) (f k + n k)) in
    record {
      value = λ v s. ap (λ (b : List ℕ). Some b) same ∙ (viewing.text_shown d w i p lt c.args.self.short c.requires v (some v s) s).is;
      slice = same ∙ viewing.bytes_of_string d w i p lt c.requires;
      utf8 = IsUtf8-had _ (∥∥₁_map c.args.self.shown (λ h. subst (λ (b : List ℕ). IsUtf8 b) (sym same) (viewing.text_shown d w i p lt c.args.self.short c.requires h.0 (some h.0 h.1) h.1).utf8));
    }

pub part-requires-2 : goal.part-requires-2
part-requires-2 c =
    let d = c.args.self.decoded.now in
    let i = c.args.self.index in
    let p = c.args.self.place in
    let lt = c.args.self.in_range in
    let w = subst (λ (b : List ℕ). WellFormed b) c.table.ensures c.rows-rows.ensures.well_formed in
    let n : c.u64_at-count.result ≡ number_at w64 d.bytes p = c.u64_at-count.ensures ∙ ap (λ (b : List ℕ). number_at w64 b p) c.links-links.ensures.came in
    let some = blank.there d w i p lt c.links-links.result.now c.links-links.ensures.came c.links-links.ensures.noted (p + 8) (viewing.string_marks d w i p lt c.requires) c.is_blank.result c.is_blank.ensures c.if-is_blank.false in
    let f : c.object_of_marker-from.result ≡ object_at d.links (p + 8) = c.object_of_marker-from.ensures ∙ ap (λ (l : Linked). object_at l (p + 8)) c.links-links.ensures.noted in
    let full = content.nonzero (number_at w64 d.bytes p) (λ e. c.if-count-eq0.false (n ∙ e)) in
    let within : object_at d.links (p + 8) + number_at w64 d.bytes p ≤ length d.bytes =
    ∥∥₁_elim c.args.self.shown le_prop (λ h. (viewing.text_shown d w i p lt c.args.self.short c.requires h.0 (some h.0 h.1) h.1).within full) in
    let long = ap length c.links-links.ensures.came in
    record {
      order = omega arith;
      room = omega (arith, within, n, f, long);
      free = ∥∥₁_elim c.args.self.shown (hlevel props) (λ h. unlinked.free c.links-links.result.now d.bytes d.links c.links-links.ensures.came c.links-links.ensures.noted c.object_of_marker-from.result (c.object_of_marker-from.result + c.u64_at-count.result)
          (subst (λ k. AreUnlinked d.links k (k + c.u64_at-count.result)) (sym f) (subst (λ k. AreUnlinked d.links (object_at d.links (p + 8)) (object_at d.links (p + 8) + k)) (sym n) (viewing.text_shown d w i p lt c.args.self.short c.requires h.0 (some h.0 h.1) h.1).free)));
    }

pub overflow_add-from : goal.overflow_add-from
overflow_add-from c =
    let d = c.args.self.decoded.now in
    let i = c.args.self.index in
    let p = c.args.self.place in
    let lt = c.args.self.in_range in
    let w = subst (λ (b : List ℕ). WellFormed b) c.table.ensures c.rows-rows.ensures.well_formed in
    let n : c.u64_at-count.result ≡ number_at w64 d.bytes p = c.u64_at-count.ensures ∙ ap (λ (b : List ℕ). number_at w64 b p) c.links-links.ensures.came in
    let some = blank.there d w i p lt c.links-links.result.now c.links-links.ensures.came c.links-links.ensures.noted (p + 8) (viewing.string_marks d w i p lt c.requires) c.is_blank.result c.is_blank.ensures c.if-is_blank.false in
    let f : c.object_of_marker-from.result ≡ object_at d.links (p + 8) = c.object_of_marker-from.ensures ∙ ap (λ (l : Linked). object_at l (p + 8)) c.links-links.ensures.noted in
    let full = content.nonzero (number_at w64 d.bytes p) (λ e. c.if-count-eq0.false (n ∙ e)) in
    let within : object_at d.links (p + 8) + number_at w64 d.bytes p ≤ length d.bytes =
    ∥∥₁_elim c.args.self.shown le_prop (λ h. (viewing.text_shown d w i p lt c.args.self.short c.requires h.0 (some h.0 h.1) h.1).within full) in
    record { fits = omega (arith, within, n, f, c.args.self.short) }

pub overflow_add-self : goal.overflow_add-self
overflow_add-self c =
    let d = c.args.self.decoded.now in
    let i = c.args.self.index in
    let p = c.args.self.place in
    let lt = c.args.self.in_range in
    let w = subst (λ (b : List ℕ). WellFormed b) c.table.ensures c.rows-rows.ensures.well_formed in
    let wide = viewing.string_size d w i p lt c.requires in
    record { fits = omega (arith, wide, c.args.self.room, c.args.self.short) }

pub u64_at-count-requires : goal.u64_at-count-requires
u64_at-count-requires c =
    let d = c.args.self.decoded.now in
    let i = c.args.self.index in
    let p = c.args.self.place in
    let lt = c.args.self.in_range in
    let w = subst (λ (b : List ℕ). WellFormed b) c.table.ensures c.rows-rows.ensures.well_formed in
    let wide = viewing.string_size d w i p lt c.requires in
    let long = ap length c.links-links.ensures.came in
    record {
      room = omega (arith, wide, long, c.args.self.room);
      free = ∥∥₁_elim c.args.self.shown (hlevel props) (λ h. unlinked.free c.links-links.result.now d.bytes d.links c.links-links.ensures.came c.links-links.ensures.noted p (p + 8) (viewing.string_count_free d w i p lt c.requires h.0 h.1));
    }

pub overflow_add-self-2 : goal.overflow_add-self-2
overflow_add-self-2 c =
    let d = c.args.self.decoded.now in
    let i = c.args.self.index in
    let p = c.args.self.place in
    let lt = c.args.self.in_range in
    let w = subst (λ (b : List ℕ). WellFormed b) c.table.ensures c.rows-rows.ensures.well_formed in
    let wide = viewing.string_size d w i p lt c.requires in
    record { fits = omega (arith, wide, c.args.self.room, c.args.self.short) }

pub object_of_marker-from-requires : goal.object_of_marker-from-requires
object_of_marker-from-requires c =
    let d = c.args.self.decoded.now in
    let i = c.args.self.index in
    let p = c.args.self.place in
    let lt = c.args.self.in_range in
    let w = subst (λ (b : List ℕ). WellFormed b) c.table.ensures c.rows-rows.ensures.well_formed in
    let wide = viewing.string_size d w i p lt c.requires in
    let long = ap length c.links-links.ensures.came in
    let some = blank.there d w i p lt c.links-links.result.now c.links-links.ensures.came c.links-links.ensures.noted (p + 8) (viewing.string_marks d w i p lt c.requires) c.is_blank.result c.is_blank.ensures c.if-is_blank.false in
    let there = blank.linked d w i p lt c.links-links.result.now c.links-links.ensures.came c.links-links.ensures.noted (p + 8) (viewing.string_marks d w i p lt c.requires) c.args.self.shown some in
    record {
      aligned = blank.aligned d w i p lt c.links-links.result.now c.links-links.ensures.came c.links-links.ensures.noted (p + 8) (viewing.string_marks d w i p lt c.requires) c.args.self.shown;
      within = omega (arith, wide, long, c.args.self.room);
      present = there.0;
      linked = there.1;
    }
