use Rattle.std.proofs.Common.{Option, Some, None, Result, Ok, Err}
use Rattle.std.specs.Prelude.{IfOk, IfSome}
use Rattle.fidl_constraints.specs.Behind.{RefersTo, LeadsTo}
use Rattle.fidl_constraints.specs.BehindViews.{target_view, use_view}
use Rattle.fidl_constraints.specs.declared.targets.Target.{Target as CodeTarget}
use Rattle.fidl_constraints.proofs.targets.leads_to.Goals as goal

found_weaker : {X E : Type 0} (r : Result (Option X) E) (P Q : X → Type 0) → ((x : X) → P x → Q x) → IfOk r (λ o. IfSome o P) → IfOk r (λ o. IfSome o Q)
found_weaker (Ok None) P Q to h = h
found_weaker (Ok (Some x)) P Q to h = to x h
found_weaker (Err e) P Q to h = h

pub returns-in-Written-clause-found : goal.returns-in-Written-clause-found
returns-in-Written-clause-found c =
    let fs = c.args.named.now in
    let i = c.args.file_index in
    let t = use_view c.args.of in
    found_weaker c.refers_to.result (λ (x : CodeTarget). RefersTo fs i t (target_view x)) (λ (x : CodeTarget). LeadsTo fs i t (target_view x))
    (λ x h. LeadsTo.at_once i t (target_view x) h) c.refers_to.ensures.found
