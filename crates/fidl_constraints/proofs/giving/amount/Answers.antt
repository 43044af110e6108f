use Rattle.std.proofs.Common.{ℕ, sym, subst}
use Rattle.std.specs.Prelude.{IfOk, IsNone}
use Rattle.fidl_constraints.specs.BehindViews.{head_view}
use Rattle.fidl_constraints.specs.declared.parts.PartKind.{PartKind}
use Rattle.fidl_constraints.specs.ItemViews.{item_view}
use Rattle.fidl_constraints.specs.Gives.{IsAmount}
use Rattle.fidl_constraints.proofs.giving.amount.Goals as goal

pub returns-in-Bound-clause-none : goal.returns-in-Bound-clause-none
returns-in-Bound-clause-none c =
    subst (λ (k : PartKind). IfOk c.bound_amount.result (λ found. IsNone found → (n : ℕ) → IsAmount c.args.scope.named.now (head_view c.args.head) (item_view c.args.item) k n → ⊥)) (sym c.in-Bound.is) c.bound_amount.ensures.none

pub returns-in-Subtype-clause-none : goal.returns-in-Subtype-clause-none
returns-in-Subtype-clause-none c =
    subst (λ (k : PartKind). IfOk c.handle_amount.result (λ found. IsNone found → (n : ℕ) → IsAmount c.args.scope.named.now (head_view c.args.head) (item_view c.args.item) k n → ⊥)) (sym c.in-Subtype.is) c.handle_amount.ensures.none

pub returns-in-Rights-clause-none : goal.returns-in-Rights-clause-none
returns-in-Rights-clause-none c =
    subst (λ (k : PartKind). IfOk c.handle_amount-in-Rights.result (λ found. IsNone found → (n : ℕ) → IsAmount c.args.scope.named.now (head_view c.args.head) (item_view c.args.item) k n → ⊥)) (sym c.in-Rights.is) c.handle_amount-in-Rights.ensures.none
