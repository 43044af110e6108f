use Rattle.std.proofs.Common.{arith, subst}
use Rattle.fidl_constraints.specs.declared.aliases.Followed.{Followed}
use Rattle.fidl_constraints.specs.BehindViews.{use_view}
use Rattle.fidl_constraints.specs.Followed.{IsFollowed}
use Rattle.fidl_constraints.proofs.Few.{few_lists}
use Rattle.fidl_constraints.proofs.aliases.behind_few.Goals as goal

pub returns-in-Many-clause-none : goal.returns-in-Many-clause-none
returns-in-Many-clause-none c = λ _ core parts h.
    let fs = c.args.named.now in
    let t = use_view c.args.of in
    let its = subst (λ (x : Followed). IsFollowed fs c.args.file_index t 5 x) c.in-Many.is c.in_ok-core.ensures in
    let many = its core h.behind in
    let few = few_lists fs c.args.file_index t core parts h in
    absurd (omega (arith, many, few))
