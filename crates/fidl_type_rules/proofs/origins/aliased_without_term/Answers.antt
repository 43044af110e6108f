use Rattle.std.proofs.Common.{Option, subst}
use Rattle.std.specs.Prelude.{IfSome}
use Rattle.fidl_constraints.specs.Behind.{RefersTo, follows}
use Rattle.fidl_constraints.specs.BehindViews.{use_view}
use Rattle.fidl_type_rules.specs.declared.used.Used.{Used}
use Rattle.fidl_type_rules.proofs.Stood.{only_followed}
use Rattle.fidl_type_rules.proofs.origins.aliased_without_term.Goals as goal

pub returns-then-branch-clause-none : goal.returns-then-branch-clause-none
returns-then-branch-clause-none c = λ _ n u h.
    let fs = c.args.sources.now.named.now in
    let i = c.args.used.file_index in
    let t = use_view c.args.used.of in
    let origin = c.in-Some.origin in
    let there = subst (λ (x : Option Used). IfSome x (λ o. RefersTo fs i t (follows o.file_index (use_view o.of)))) c.in-Some.is c.in_ok-aliased.ensures.found in
    only_followed fs i t origin.file_index n (use_view origin.of) u there h (c.in_ok-has_term-in-Some.ensures.yes c.if-branch.true)
