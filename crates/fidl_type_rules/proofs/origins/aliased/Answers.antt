use Rattle.std.proofs.Common.{◌∙◌, ◌<◌, ◌≡◌, length, List, Option, Some, refl, ap, sym, subst}
use Rattle.std.specs.Prelude.{IfSome, IsNone}
use Rattle.fidl_constraints.specs.declared.targets.Target.{Target as CodeTarget}
use Rattle.fidl_constraints.specs.Behind.{Target, ends, follows, RefersTo}
use Rattle.fidl_constraints.specs.BehindViews.{head_view, target_view, use_view}
use Rattle.fidl_constraints.proofs.InSet.{target_within}
use Rattle.fidl_constraints.proofs.OneBehind.{one_target}
use Rattle.fidl_type_rules.proofs.Stood.{alias_stands}
use Rattle.fidl_type_rules.proofs.origins.aliased.Goals as goal

its : (c : goal.In-Some-Follows) → RefersTo c.args.sources.now.named.now c.args.used.file_index (use_view c.args.used.of) (follows c.in-Some-Follows.file_index (use_view c.in-Some-Follows.next))
its c =
    let fs = c.args.sources.now.named.now in
    let t = use_view c.args.used.of in
    subst (λ (o : Option CodeTarget). IfSome o (λ x. RefersTo fs c.args.used.file_index t (target_view x))) (c.in-Some-Follows.is ∙ ap Some c.in-Some-Follows.field-0-is) c.in_ok-file_index.ensures.found

pub returns-in-Some-Follows-clause-within : goal.returns-in-Some-Follows-clause-within
returns-in-Some-Follows-clause-within c = target_within c.args.sources.now.named.now c.args.used.file_index (use_view c.args.used.of) (follows c.in-Some-Follows.file_index (use_view c.in-Some-Follows.next)) c.requires.within (its c)

pub returns-in-Some-Follows-clause-stands : goal.returns-in-Some-Follows-clause-stands
returns-in-Some-Follows-clause-stands c = record { at = alias_stands c.args.sources.now.named.now c.in-Some-Follows.file_index (use_view c.in-Some-Follows.next) c.args.used.file_index (use_view c.args.used.of) (its c); wanted = tt }

pub returns-in-Some-Follows-clause-found : goal.returns-in-Some-Follows-clause-found
returns-in-Some-Follows-clause-found c = its c

pub returns-in-Some-Ends-clause-none : goal.returns-in-Some-Ends-clause-none
returns-in-Some-Ends-clause-none c = λ _ n u h.
    let fs = c.args.sources.now.named.now in
    let t = use_view c.args.used.of in
    let there = subst (λ (o : Option CodeTarget). IfSome o (λ x. RefersTo fs c.args.used.file_index t (target_view x))) (c.in-Some-Ends.is ∙ ap Some c.in-Some-Ends.field-0-is) c.in_ok-file_index.ensures.found in
    let same = one_target fs c.args.used.file_index t (follows n u) _ h there in
    absurd (cc)
