use Rattle.std.proofs.Common.{ℕ, List, subst}
use Rattle.fidl_table_format.specs.WellFormed.{WellFormed}
use Rattle.fidl_view.proofs.Viewing as viewing
use Rattle.fidl_view.proofs.views.DecodedViews.view.Goals as goal

pub invariant_of-result : goal.invariant_of-result
invariant_of-result c =
    let d = c.args.self.now in
    let w : WellFormed d.table = subst (λ (b : List ℕ). WellFormed b) c.table.ensures c.entry-entry.ensures.well_formed in
    let r = viewing.message_room d w c.entry-index.result c.entry-index.ensures.value c.entry-index.ensures.below c.entry-index.ensures.encoding in
    let x = c.entry-index.ensures.stands in
    record {
      in_range = c.entry-index.ensures.below;
      room = r.0;
      short = r.1;
      shown = ∣ (x.0, viewing.message_shown d w c.entry-index.result c.entry-index.ensures.value x x.0 x.1) ∣₁;
    }

pub returns-clause-shows : goal.returns-clause-shows
returns-clause-shows c v y =
    let d = c.args.self.now in
    let w : WellFormed d.table = subst (λ (b : List ℕ). WellFormed b) c.table.ensures c.entry-entry.ensures.well_formed in
    viewing.message_shown d w c.entry-index.result c.entry-index.ensures.value c.entry-index.ensures.stands v y

pub returns-clause-value : goal.returns-clause-value
returns-clause-value c =
    let d = c.args.self.now in
    let w : WellFormed d.table = subst (λ (b : List ℕ). WellFormed b) c.table.ensures c.entry-entry.ensures.well_formed in
    viewing.message_value d w c.entry-index.result c.entry-index.ensures.value c.entry-index.ensures.stands
