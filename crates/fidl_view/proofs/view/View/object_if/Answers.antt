use Rattle.std.proofs.Common.{ℕ, List, subst, arith, not, inl, inr}
use Rattle.std.proofs.lemmas.Bool.{and_parts, and_cases, both_ways, not-true, not-false}
use Rattle.fidl_table_format.specs.WellFormed.{WellFormed}
use Rattle.fidl_view.proofs.Boxed as boxes
use Rattle.fidl_view.proofs.Viewing as viewing
use Rattle.fidl_view.proofs.view.View.object_if.Goals as goal

pub is_blank-blank-requires : goal.is_blank-blank-requires
is_blank-blank-requires c =
    let s = c.args.self in
    let d = s.decoded.now in
    let w = subst (λ (b : List ℕ). WellFormed b) c.table.ensures c.rows-rows.ensures.well_formed in
    let links = c.links-links.ensures in
    let l = c.links-links.result.now in
    let marker = c.either_place-marker in
    let some = viewing.has_byte d w s.index s.place s.in_range in
    let room = s.room in
    let first = boxes.first_word d c.entry-entry.ensures.encoding (omega (arith, some, room)) in
    record {
      aligned = boxes.marker_aligned d w s.index s.place s.in_range l links.came links.noted c.args.boxed c.requires marker.result marker.ensures.yes marker.ensures.no s.shown;
      within = boxes.marker_within d w s.index s.place s.in_range l links.came links.noted c.args.boxed c.requires marker.result marker.ensures.yes marker.ensures.no first s.room;
    }

pub object_of_marker-requires : goal.object_of_marker-requires
object_of_marker-requires c =
    let s = c.args.self in
    let d = s.decoded.now in
    let w = subst (λ (b : List ℕ). WellFormed b) c.table.ensures c.rows-rows.ensures.well_formed in
    let links = c.links-links.ensures in
    let l = c.links-links.result.now in
    let marker = c.either_place-marker in
    let both = and_parts c.args.boxed (not c.is_blank-blank.result) c.if-boxed-blank.true in
    let blank = not-true c.is_blank-blank.result both.1 in
    let at = marker.ensures.yes both.0 in
    let is = c.requires both.0 in
    let some = viewing.has_byte d w s.index s.place s.in_range in
    let room = s.room in
    let first = boxes.first_word d c.entry-entry.ensures.encoding (omega (arith, some, room)) in
    let there = boxes.box_linked d w s.index s.place s.in_range l links.came links.noted c.is_blank-blank.result is marker.result at c.is_blank-blank.ensures blank s.shown in
    record {
      aligned = boxes.marker_aligned d w s.index s.place s.in_range l links.came links.noted c.args.boxed c.requires marker.result marker.ensures.yes marker.ensures.no s.shown;
      within = boxes.marker_within d w s.index s.place s.in_range l links.came links.noted c.args.boxed c.requires marker.result marker.ensures.yes marker.ensures.no first s.room;
      present = there.0;
      linked = there.1;
    }

pub returns-then-boxed-blank-clause-absent : goal.returns-then-boxed-blank-clause-absent
returns-then-boxed-blank-clause-absent c v wants zero shows =
    let s = c.args.self in
    let d = s.decoded.now in
    let w = subst (λ (b : List ℕ). WellFormed b) c.table.ensures c.rows-rows.ensures.well_formed in
    let links = c.links-links.ensures in
    let l = c.links-links.result.now in
    let marker = c.either_place-marker in
    let both = and_parts c.args.boxed (not c.is_blank-blank.result) c.if-boxed-blank.true in
    let blank = not-true c.is_blank-blank.result both.1 in
    let at = marker.ensures.yes both.0 in
    let is = c.requires both.0 in
    let there = boxes.box_linked d w s.index s.place s.in_range l links.came links.noted c.is_blank-blank.result is marker.result at c.is_blank-blank.ensures blank s.shown in
    let more = there.1 in
    let object = c.object_of_marker.ensures in
    let never : ⊥ = omega (arith, zero, more, object) in
    absurd never

pub returns-then-boxed-blank-clause-there : goal.returns-then-boxed-blank-clause-there
returns-then-boxed-blank-clause-there c v more shows =
    let s = c.args.self in
    let d = s.decoded.now in
    let w = subst (λ (b : List ℕ). WellFormed b) c.table.ensures c.rows-rows.ensures.well_formed in
    let links = c.links-links.ensures in
    let l = c.links-links.result.now in
    let marker = c.either_place-marker in
    let both = and_parts c.args.boxed (not c.is_blank-blank.result) c.if-boxed-blank.true in
    let blank = not-true c.is_blank-blank.result both.1 in
    let at = marker.ensures.yes both.0 in
    let is = c.requires both.0 in
    boxes.box_found d w s.index s.place s.in_range l links.came links.noted c.is_blank-blank.result is marker.result at c.is_blank-blank.ensures blank c.object_of_marker.result c.object_of_marker.ensures v shows

pub returns-else-boxed-blank-clause-absent : goal.returns-else-boxed-blank-clause-absent
returns-else-boxed-blank-clause-absent c v wants zero shows =
    let s = c.args.self in
    let d = s.decoded.now in
    let w = subst (λ (b : List ℕ). WellFormed b) c.table.ensures c.rows-rows.ensures.well_formed in
    let links = c.links-links.ensures in
    let l = c.links-links.result.now in
    let marker = c.either_place-marker in
    elim (and_cases c.args.boxed (not c.is_blank-blank.result) c.if-boxed-blank.false) [
      | inl other ↦ absurd (both_ways c.args.boxed other wants)
      | inr blank ↦ boxes.absent_box d w s.index s.place s.in_range l links.came links.noted c.is_blank-blank.result (c.requires wants) marker.result (marker.ensures.yes wants) c.is_blank-blank.ensures (not-false c.is_blank-blank.result blank) v shows
    ]
