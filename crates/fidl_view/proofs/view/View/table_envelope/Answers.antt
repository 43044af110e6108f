use Rattle.std.proofs.Common.{◌≡◌, ℕ, ◌+◌, ◌-◌, ◌*◌, ◌%◌, ◌≤◌, List, length, refl, ap, sym, subst, ◌∙◌, arith}
use Rattle.std.specs.Int.{w64}
use Rattle.std.proofs.Math.Logic.{∥∥₁_map, ∥∥₁_elim}
use Rattle.std.proofs.Math.Bridge.{le_prop}
use denote.Struct.Props.{props}
use Rattle.fidl_wire.specs.Encoding.{zeros}
use Rattle.fidl_wire.specs.Standing.{Stands}
use Rattle.fidl_table_format.specs.declared.kind.EntryKind.TheVariants.{Table}
use Rattle.fidl_wire.specs.Field.{number_at}
use Rattle.fidl_table_format.specs.WellFormed.{WellFormed}
use Rattle.fidl_view.specs.Members.{ShowMember}
use Rattle.fidl_view.proofs.Content.{nonzero}
use Rattle.fidl_view.proofs.Keyed as keyed
use Rattle.fidl_decode_model.specs.Links.{Linked}
use Rattle.fidl_decode_model.specs.Placed.{object_at}
use Rattle.fidl_view.proofs.Content.{IsUnlinkedWord, not_both}
use Rattle.fidl_view.proofs.Blank as blank
use Rattle.fidl_view.proofs.Unlinked as unlinked
use Rattle.fidl_view.proofs.Viewing as viewing
use Rattle.fidl_view.proofs.view.View.table_envelope.Goals as goal

pub returns-then-ordinal-eq0-clause-held : goal.returns-then-ordinal-eq0-clause-held
returns-then-ordinal-eq0-clause-held c v h =
    let d = c.args.self.decoded.now in
    let i = c.args.self.index in
    let p = c.args.self.place in
    let lt = c.args.self.in_range in
    let is = c.requires in
    let w = subst (λ (b : List ℕ). WellFormed b) c.table.ensures c.rows-rows.ensures.well_formed in
    let counted : c.u64_at-count.result ≡ number_at w64 d.bytes p = c.u64_at-count.ensures ∙ ap (λ (b : List ℕ). number_at w64 b p) c.links-links.ensures.came in
    keyed.none_at_zero d w i p lt v (keyed.table_shown d w i p lt is v h) c.args.ordinal c.if-ordinal-eq0.true

pub returns-then-ordinal-count-clause-held : goal.returns-then-ordinal-count-clause-held
returns-then-ordinal-count-clause-held c v h =
    let d = c.args.self.decoded.now in
    let i = c.args.self.index in
    let p = c.args.self.place in
    let lt = c.args.self.in_range in
    let is = c.requires in
    let w = subst (λ (b : List ℕ). WellFormed b) c.table.ensures c.rows-rows.ensures.well_formed in
    let counted : c.u64_at-count.result ≡ number_at w64 d.bytes p = c.u64_at-count.ensures ∙ ap (λ (b : List ℕ). number_at w64 b p) c.links-links.ensures.came in
    keyed.none_past d w i p lt v (keyed.table_shown d w i p lt is v h) c.args.ordinal (omega (arith, c.if-ordinal-count.true, counted))

pub u64_at-count-requires : goal.u64_at-count-requires
u64_at-count-requires c =
    let d = c.args.self.decoded.now in
    let i = c.args.self.index in
    let p = c.args.self.place in
    let lt = c.args.self.in_range in
    let is = c.requires in
    let w = subst (λ (b : List ℕ). WellFormed b) c.table.ensures c.rows-rows.ensures.well_formed in
    let wide = keyed.table_size d w i p lt is in
    let long = ap length c.links-links.ensures.came in
    record {
      room = omega (arith, wide, long, c.args.self.room);
      free = ∥∥₁_elim c.args.self.shown (hlevel props) (λ h. unlinked.free c.links-links.result.now d.bytes d.links c.links-links.ensures.came c.links-links.ensures.noted p (p + 8) (viewing.table_count_free d w i p lt is h.0 h.1));
    }

pub overflow_add-self : goal.overflow_add-self
overflow_add-self c =
    let d = c.args.self.decoded.now in
    let i = c.args.self.index in
    let p = c.args.self.place in
    let lt = c.args.self.in_range in
    let is = c.requires in
    let w = subst (λ (b : List ℕ). WellFormed b) c.table.ensures c.rows-rows.ensures.well_formed in
    let wide = keyed.table_size d w i p lt is in
    record { fits = omega (arith, wide, c.args.self.room, c.args.self.short) }

pub object_of_marker-first-requires : goal.object_of_marker-first-requires
object_of_marker-first-requires c =
    let d = c.args.self.decoded.now in
    let i = c.args.self.index in
    let p = c.args.self.place in
    let lt = c.args.self.in_range in
    let is = c.requires in
    let w = subst (λ (b : List ℕ). WellFormed b) c.table.ensures c.rows-rows.ensures.well_formed in
    let wide = keyed.table_size d w i p lt is in
    let long = ap length c.links-links.ensures.came in
    let there = blank.linked d w i p lt c.links-links.result.now c.links-links.ensures.came c.links-links.ensures.noted (p + 8) (viewing.table_marks d w i p lt is) c.args.self.shown (viewing.table_there d w i p lt is) in
    record {
      aligned = blank.aligned d w i p lt c.links-links.result.now c.links-links.ensures.came c.links-links.ensures.noted (p + 8) (viewing.table_marks d w i p lt is) c.args.self.shown;
      within = omega (arith, wide, long, c.args.self.room);
      present = there.0;
      linked = there.1;
    }

pub overflow_mul-place : goal.overflow_mul-place
overflow_mul-place c =
    let d = c.args.self.decoded.now in
    let i = c.args.self.index in
    let p = c.args.self.place in
    let lt = c.args.self.in_range in
    let is = c.requires in
    let w = subst (λ (b : List ℕ). WellFormed b) c.table.ensures c.rows-rows.ensures.well_formed in
    let counted : c.u64_at-count.result ≡ number_at w64 d.bytes p = c.u64_at-count.ensures ∙ ap (λ (b : List ℕ). number_at w64 b p) c.links-links.ensures.came in
    let some = nonzero c.args.ordinal c.if-ordinal-eq0.false in
    let le : c.args.ordinal ≤ number_at w64 d.bytes p = omega (arith, c.if-ordinal-count.false, counted) in
    let room = ∥∥₁_elim c.args.self.shown le_prop (λ h. keyed.table_room d w i p lt h.0 (keyed.table_shown d w i p lt is h.0 h.1) (omega (arith, some, le))) in
    let start : c.object_of_marker-first.result ≡ object_at d.links (p + 8) = c.object_of_marker-first.ensures ∙ ap (λ (l : Linked). object_at l (p + 8)) c.links-links.ensures.noted in
    record { fits = omega (arith, room, c.args.self.short, some, le) }

pub overflow_add-place : goal.overflow_add-place
overflow_add-place c =
    let d = c.args.self.decoded.now in
    let i = c.args.self.index in
    let p = c.args.self.place in
    let lt = c.args.self.in_range in
    let is = c.requires in
    let w = subst (λ (b : List ℕ). WellFormed b) c.table.ensures c.rows-rows.ensures.well_formed in
    let counted : c.u64_at-count.result ≡ number_at w64 d.bytes p = c.u64_at-count.ensures ∙ ap (λ (b : List ℕ). number_at w64 b p) c.links-links.ensures.came in
    let some = nonzero c.args.ordinal c.if-ordinal-eq0.false in
    let le : c.args.ordinal ≤ number_at w64 d.bytes p = omega (arith, c.if-ordinal-count.false, counted) in
    let room = ∥∥₁_elim c.args.self.shown le_prop (λ h. keyed.table_room d w i p lt h.0 (keyed.table_shown d w i p lt is h.0 h.1) (omega (arith, some, le))) in
    let start : c.object_of_marker-first.result ≡ object_at d.links (p + 8) = c.object_of_marker-first.ensures ∙ ap (λ (l : Linked). object_at l (p + 8)) c.links-links.ensures.noted in
    record { fits = omega (arith, room, c.args.self.short, some, le, start) }

pub is_blank-requires : goal.is_blank-requires
is_blank-requires c =
    let d = c.args.self.decoded.now in
    let i = c.args.self.index in
    let p = c.args.self.place in
    let lt = c.args.self.in_range in
    let is = c.requires in
    let w = subst (λ (b : List ℕ). WellFormed b) c.table.ensures c.rows-rows.ensures.well_formed in
    let counted : c.u64_at-count.result ≡ number_at w64 d.bytes p = c.u64_at-count.ensures ∙ ap (λ (b : List ℕ). number_at w64 b p) c.links-links.ensures.came in
    let some = nonzero c.args.ordinal c.if-ordinal-eq0.false in
    let le : c.args.ordinal ≤ number_at w64 d.bytes p = omega (arith, c.if-ordinal-count.false, counted) in
    let room = ∥∥₁_elim c.args.self.shown le_prop (λ h. keyed.table_room d w i p lt h.0 (keyed.table_shown d w i p lt is h.0 h.1) (omega (arith, some, le))) in
    let start : c.object_of_marker-first.result ≡ object_at d.links (p + 8) = c.object_of_marker-first.ensures ∙ ap (λ (l : Linked). object_at l (p + 8)) c.links-links.ensures.noted in
    let long = ap length c.links-links.ensures.came in
    let even : object_at d.links (p + 8) % 8 ≡ 0 = ∥∥₁_elim c.args.self.shown (hlevel props) (λ h. (keyed.table_shown d w i p lt is h.0 h.1).aligned) in
    record {
      aligned = omega (arith, even, start);
      within = omega (arith, room, some, le, start, long);
    }

pub returns-then-is_blank-clause-held : goal.returns-then-is_blank-clause-held
returns-then-is_blank-clause-held c v h =
    let d = c.args.self.decoded.now in
    let i = c.args.self.index in
    let p = c.args.self.place in
    let lt = c.args.self.in_range in
    let is = c.requires in
    let w = subst (λ (b : List ℕ). WellFormed b) c.table.ensures c.rows-rows.ensures.well_formed in
    let counted : c.u64_at-count.result ≡ number_at w64 d.bytes p = c.u64_at-count.ensures ∙ ap (λ (b : List ℕ). number_at w64 b p) c.links-links.ensures.came in
    let some = nonzero c.args.ordinal c.if-ordinal-eq0.false in
    let le : c.args.ordinal ≤ number_at w64 d.bytes p = omega (arith, c.if-ordinal-count.false, counted) in
    let start : c.object_of_marker-first.result ≡ object_at d.links (p + 8) = c.object_of_marker-first.ensures ∙ ap (λ (l : Linked). object_at l (p + 8)) c.links-links.ensures.noted in
    let free = subst (λ k. IsUnlinkedWord d.links (k + 8 * (c.args.ordinal - 1))) start
    (unlinked.word_blank c.links-links.result.now d.bytes d.links c.links-links.ensures.came c.links-links.ensures.noted (c.object_of_marker-first.result + 8 * (c.args.ordinal - 1)) (c.is_blank.ensures.0 c.if-is_blank.true).0) in
    keyed.none_in_blank d w i p lt v (keyed.table_shown d w i p lt is v h) c.args.ordinal some le free

pub invariant_of-result : goal.invariant_of-result
invariant_of-result c =
    let d = c.args.self.decoded.now in
    let i = c.args.self.index in
    let p = c.args.self.place in
    let lt = c.args.self.in_range in
    let is = c.requires in
    let w = subst (λ (b : List ℕ). WellFormed b) c.table.ensures c.rows-rows.ensures.well_formed in
    let counted : c.u64_at-count.result ≡ number_at w64 d.bytes p = c.u64_at-count.ensures ∙ ap (λ (b : List ℕ). number_at w64 b p) c.links-links.ensures.came in
    let some = nonzero c.args.ordinal c.if-ordinal-eq0.false in
    let le : c.args.ordinal ≤ number_at w64 d.bytes p = omega (arith, c.if-ordinal-count.false, counted) in
    let room = ∥∥₁_elim c.args.self.shown le_prop (λ h. keyed.table_room d w i p lt h.0 (keyed.table_shown d w i p lt is h.0 h.1) (omega (arith, some, le))) in
    let start : c.object_of_marker-first.result ≡ object_at d.links (p + 8) = c.object_of_marker-first.ensures ∙ ap (λ (l : Linked). object_at l (p + 8)) c.links-links.ensures.noted in
    let slot = c.object_of_marker-first.result + 8 * (c.args.ordinal - 1) in
    let came_blank = λ (e : IsUnlinkedWord d.links slot × Stands d.bytes slot (zeros 8)). c.is_blank.ensures.1 (
      unlinked.blank_word c.links-links.result.now d.bytes d.links c.links-links.ensures.came c.links-links.ensures.noted slot e.0,
      unlinked.stands c.links-links.result.now d.bytes d.links c.links-links.ensures.came c.links-links.ensures.noted slot (zeros 8) e.1,
    ) in
    let other = subst (λ k. IsUnlinkedWord d.links (k + 8 * (c.args.ordinal - 1)) × Stands d.bytes (k + 8 * (c.args.ordinal - 1)) (zeros 8) → ⊥) start (λ e. not_both (sym c.if-is_blank.false ∙ came_blank e)) in
    record {
      in_range = lt;
      of_ordinals = keyed.has_ordinals d w i Table refl is;
      room = omega (arith, room, some, le, start);
      short = c.args.self.short;
      few = c.entry-entry.ensures.encoding.1.few;
      shown = ∥∥₁_map c.args.self.shown (λ h. let x = keyed.held_there d w i p lt h.0 (keyed.table_shown d w i p lt is h.0 h.1) c.args.ordinal some le other in
          (x.0, subst (λ k. ShowMember d i c.args.ordinal (k + 8 * (c.args.ordinal - 1)) x.0) (sym start) x.2));
    }

pub returns : goal.returns
returns c =
    let d = c.args.self.decoded.now in
    let i = c.args.self.index in
    let p = c.args.self.place in
    let lt = c.args.self.in_range in
    let is = c.requires in
    let w = subst (λ (b : List ℕ). WellFormed b) c.table.ensures c.rows-rows.ensures.well_formed in
    let counted : c.u64_at-count.result ≡ number_at w64 d.bytes p = c.u64_at-count.ensures ∙ ap (λ (b : List ℕ). number_at w64 b p) c.links-links.ensures.came in
    let some = nonzero c.args.ordinal c.if-ordinal-eq0.false in
    let le : c.args.ordinal ≤ number_at w64 d.bytes p = omega (arith, c.if-ordinal-count.false, counted) in
    let start : c.object_of_marker-first.result ≡ object_at d.links (p + 8) = c.object_of_marker-first.ensures ∙ ap (λ (l : Linked). object_at l (p + 8)) c.links-links.ensures.noted in
    let slot = c.object_of_marker-first.result + 8 * (c.args.ordinal - 1) in
    let came_blank = λ (e : IsUnlinkedWord d.links slot × Stands d.bytes slot (zeros 8)). c.is_blank.ensures.1 (
      unlinked.blank_word c.links-links.result.now d.bytes d.links c.links-links.ensures.came c.links-links.ensures.noted slot e.0,
      unlinked.stands c.links-links.result.now d.bytes d.links c.links-links.ensures.came c.links-links.ensures.noted slot (zeros 8) e.1,
    ) in
    let other = subst (λ k. IsUnlinkedWord d.links (k + 8 * (c.args.ordinal - 1)) × Stands d.bytes (k + 8 * (c.args.ordinal - 1)) (zeros 8) → ⊥) start (λ e. not_both (sym c.if-is_blank.false ∙ came_blank e)) in
    record {
      message = refl;
      entry = refl;
      ordinal = refl;
      typed = refl;
      held = λ v h. let x = keyed.held_there d w i p lt v (keyed.table_shown d w i p lt is v h) c.args.ordinal some le other in
          (x.0, x.1, subst (λ k. ShowMember d i c.args.ordinal (k + 8 * (c.args.ordinal - 1)) x.0) (sym start) x.2);
    }
