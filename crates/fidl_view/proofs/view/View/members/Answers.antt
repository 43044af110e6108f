use Rattle.std.proofs.Common.{◌≡◌, ℕ, List, ap, subst, ◌∙◌}
use Rattle.std.proofs.Math.Logic.{∥∥₁_map}
use Rattle.fidl_table_format.specs.declared.record.Entry.{Entry}
use Rattle.fidl_table_format.specs.Section.{entry_at}
use Rattle.fidl_table_format.specs.WellFormed.{WellFormed}
use Rattle.fidl_view.proofs.Boxed as boxes
use Rattle.fidl_view.proofs.view.View.members.Goals as goal

pub invariant_of-result : goal.invariant_of-result
invariant_of-result c =
    let s = c.args.self in
    let d = s.decoded.now in
    let i = s.index in
    let p = s.place in
    let w = subst (λ (b : List ℕ). WellFormed b) c.table.ensures c.entry-content.ensures.well_formed in
    let begun : c.entry-content.result.first ≡ (entry_at d.table i).first = ap (λ (e : Entry). e.first) (c.entry-content.ensures.value ∙ ap (λ (b : List ℕ). entry_at b i) c.table.ensures) in
    let box = c.is_box-boxed in
    let own = c.is_struct in
    let object = c.object_if-object in
    let x = boxes.found d w i p s.in_range box.result own.result object.result box.ensures.yes box.ensures.no own.ensures.yes own.ensures.no c.either_entry-index.result c.either_place-place.result
    c.if-is_struct-boxed.false (λ t. c.either_entry-index.ensures.yes t ∙ begun) c.either_entry-index.ensures.no c.either_place-place.ensures.yes c.either_place-place.ensures.no object.ensures.there in
    record {
      in_range = boxes.found_in_range d w i p s.in_range c.either_entry-index.result c.either_place-place.result x;
      of_struct = boxes.found_struct d w i p s.in_range c.either_entry-index.result c.either_place-place.result x;
      short = s.short;
      shown = ∥∥₁_map s.shown (λ h. let y = boxes.found_members d w i p s.in_range c.either_entry-index.result c.either_place-place.result x h.0 h.1 in (y.0, y.2));
    }

pub returns-clause-of : goal.returns-clause-of
returns-clause-of c =
    let s = c.args.self in
    let d = s.decoded.now in
    let i = s.index in
    let p = s.place in
    let w = subst (λ (b : List ℕ). WellFormed b) c.table.ensures c.entry-content.ensures.well_formed in
    let begun : c.entry-content.result.first ≡ (entry_at d.table i).first = ap (λ (e : Entry). e.first) (c.entry-content.ensures.value ∙ ap (λ (b : List ℕ). entry_at b i) c.table.ensures) in
    let box = c.is_box-boxed in
    let own = c.is_struct in
    let object = c.object_if-object in
    let x = boxes.found d w i p s.in_range box.result own.result object.result box.ensures.yes box.ensures.no own.ensures.yes own.ensures.no c.either_entry-index.result c.either_place-place.result
    c.if-is_struct-boxed.false (λ t. c.either_entry-index.ensures.yes t ∙ begun) c.either_entry-index.ensures.no c.either_place-place.ensures.yes c.either_place-place.ensures.no object.ensures.there in
    boxes.found_fields d w i p s.in_range c.either_entry-index.result c.either_place-place.result x

pub returns-clause-members : goal.returns-clause-members
returns-clause-members c =
    let s = c.args.self in
    let d = s.decoded.now in
    let i = s.index in
    let p = s.place in
    let w = subst (λ (b : List ℕ). WellFormed b) c.table.ensures c.entry-content.ensures.well_formed in
    let begun : c.entry-content.result.first ≡ (entry_at d.table i).first = ap (λ (e : Entry). e.first) (c.entry-content.ensures.value ∙ ap (λ (b : List ℕ). entry_at b i) c.table.ensures) in
    let box = c.is_box-boxed in
    let own = c.is_struct in
    let object = c.object_if-object in
    let x = boxes.found d w i p s.in_range box.result own.result object.result box.ensures.yes box.ensures.no own.ensures.yes own.ensures.no c.either_entry-index.result c.either_place-place.result
    c.if-is_struct-boxed.false (λ t. c.either_entry-index.ensures.yes t ∙ begun) c.either_entry-index.ensures.no c.either_place-place.ensures.yes c.either_place-place.ensures.no object.ensures.there in
    boxes.found_members d w i p s.in_range c.either_entry-index.result c.either_place-place.result x

pub returns-then-is_struct-boxed-clause-members : goal.returns-then-is_struct-boxed-clause-members
returns-then-is_struct-boxed-clause-members c =
    let s = c.args.self in
    let d = s.decoded.now in
    let w = subst (λ (b : List ℕ). WellFormed b) c.table.ensures c.entry-content.ensures.well_formed in
    let box = c.is_box-boxed in
    let own = c.is_struct in
    let object = c.object_if-object in
    boxes.lacking d w s.index s.place s.in_range box.result own.result object.result box.ensures.yes box.ensures.no own.ensures.yes own.ensures.no c.if-is_struct-boxed.true object.ensures.absent
