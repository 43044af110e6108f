use Rattle.std.proofs.Common.{ℕ, ap, sym, subst}
use Rattle.std.specs.Prelude.{IfOk, IfSome, IsNone}
use Rattle.fidl_constraints.specs.Behind.{Head}
use Rattle.fidl_constraints.specs.BehindViews.{head_view}
use Rattle.fidl_constraints.specs.ItemViews.{IsHandleOf}
use Rattle.fidl_constraints.proofs.giving.handle_amount.Goals as goal

pub returns-in-Handle-clause-found : goal.returns-in-Handle-clause-found
returns-in-Handle-clause-found c =
    subst (λ (h : Head). IfOk c.property_amount.result (λ found. IfSome found (IsHandleOf c.args.scope.named.now h c.args.item))) (sym (ap head_view c.in-Handle.is)) c.property_amount.ensures.found

pub returns-in-Handle-clause-none : goal.returns-in-Handle-clause-none
returns-in-Handle-clause-none c =
    subst (λ (h : Head). IfOk c.property_amount.result (λ found. IsNone found → (n : ℕ) → IsHandleOf c.args.scope.named.now h c.args.item n → ⊥)) (sym (ap head_view c.in-Handle.is)) c.property_amount.ensures.none
