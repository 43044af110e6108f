use Rattle.std.proofs.Common.{ℤ, ◌<ℤ◌, List, sym, subst, true≢false, ◌∙◌}
use Rattle.std.specs.List.{AllPairs}
use Rattle.fidl_lower_layouts.proofs.Sorting.{sorted_numbers}
use Rattle.fidl_lower_layouts.proofs.order.rising.Goals as goal

pub returns-then-not-numbers_rise-clause-none : goal.returns-then-not-numbers_rise-clause-none
returns-then-not-numbers_rise-clause-none c = λ _ zs moved rise.
    let sorted = c.sort_unstable.new.self.items in
    let its = sorted_numbers c.args.numbers.items sorted zs c.sort_unstable.ensures.permutation c.sort_unstable.ensures.sorted moved rise in
    true≢false (sym (c.numbers_rise.ensures.1 (subst (λ (l : List ℤ). AllPairs (λ (y z : ℤ). y <ℤ z) l) (sym c.deref.ensures.value) its)) ∙ c.if-not-numbers_rise.true)
