use Rattle.std.proofs.Common.{rules, ◌<◌, List, sym, subst, true≢false, ◌∙◌}
use Rattle.std.specs.List.{AllPairs}
use Rattle.std.specs.List.Sorted.{IsNonDecreasingBy}
use Rattle.std.proofs.lemmas.List.Sorted.{IsNonDecreasingBy-from_sort_by_key}
use Rattle.fidl_ir.specs.declared.term.Row.{Row}
use Rattle.fidl_ir.specs.Terms.{rows_view}
use Rattle.fidl_lower_layouts.specs.Members.{row_ordinals}
use Rattle.fidl_lower_layouts.proofs.Sorting.{sorted_rise}
use Rattle.fidl_lower_layouts.proofs.order.by_ordinal.Goals as goal

pub returns-then-not-ordinals_rise-clause-none : goal.returns-then-not-ordinals_rise-clause-none
returns-then-not-ordinals_rise-clause-none c = λ _ ns moved rise.
    let sorted = c.sort_unstable_by_key.new.self.items in
    let up : IsNonDecreasingBy (λ (r : Row). r.ordinal) sorted = IsNonDecreasingBy-from_sort_by_key (λ (r : Row). r.ordinal) _ c.sort_unstable_by_key.ensures.sorted (λ a r q k. search rules) in
    let its = sorted_rise c.args.rows.items sorted ns c.sort_unstable_by_key.ensures.permutation up moved rise in
    true≢false (sym (c.ordinals_rise.ensures.1 (subst (λ (l : List Row). AllPairs (λ m n. m < n) (row_ordinals (rows_view l))) (sym c.deref.ensures.value) its)) ∙ c.if-not-ordinals_rise.true)
