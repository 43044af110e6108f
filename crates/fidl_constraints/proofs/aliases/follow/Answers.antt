use Rattle.std.proofs.Common.{◌≡◌, ◌∙◌, ◌++◌, List, Option, Some, refl, ap, sym, subst, arith}
use Rattle.std.specs.Prelude.{IfSome, IsNone}
use Rattle.fidl_constraints.specs.declared.targets.Target.{Target as CodeTarget}
use Rattle.fidl_constraints.specs.Behind.{Target, Given, RefersTo, LeadsTo, given_in, Behind}
use Rattle.fidl_constraints.specs.BehindViews.{lists_view, head_view, target_view, use_view}
use Rattle.fidl_constraints.proofs.Walking.{IsReached, reached_end, reached_nothing, reached_next, reached_many}
use Rattle.fidl_constraints.proofs.aliases.follow.Goals as goal

pub returns-in-None : goal.returns-in-None
returns-in-None c =
    let fs = c.args.named.now in
    let at = c.aliases.at in
    let t = use_view c.aliases.current in
    let none = subst (λ (o : Option CodeTarget). IsNone o → (x : Target) → RefersTo fs at t x → ⊥) c.in-None.is c.in_ok-leads_to.ensures.none refl in
    reached_nothing fs c.args.file_index (use_view c.args.of) (lists_view c.aliases.given.items) at t c.aliases.invariant.reached none

pub returns-then-len-most : goal.returns-then-len-most
returns-then-len-most c = λ core k.
    let many = reached_many c.args.named.now c.args.file_index (use_view c.args.of) (lists_view c.aliases.given.items) c.aliases.at (use_view c.aliases.current) c.aliases.invariant.reached core k in
    let long = c.aliases.invariant.long in
    omega (arith, many, long, c.if-len-most.true, c.len.ensures)

pub returns-in-Some-Ends : goal.returns-in-Some-Ends
returns-in-Some-Ends c =
    let fs = c.args.named.now in
    let at = c.aliases.at in
    let t = use_view c.aliases.current in
    let gs = lists_view c.aliases.given.items in
    let head = head_view c.in-Some-Ends.head in
    let of = c.in-Some-Ends.file_index in
    let refers = subst (λ (o : Option CodeTarget). IfSome o (λ x. LeadsTo fs at t (target_view x))) (c.in-Some-Ends.is ∙ ap Some c.in-Some-Ends.field-0-is) c.in_ok-leads_to.ensures.found in
    let lists : lists_view c.push_given.new.given.items ≡ gs ++ given_in at t = c.in_ok-push_given.ensures.lists in
    let h = reached_end fs c.args.file_index (use_view c.args.of) gs at t c.aliases.invariant.reached of head refers in
    subst (λ (l : List Given). Behind fs c.args.file_index (use_view c.args.of) (record { file = of; head = head; given = l })) (sym lists) h

pub aliases-preserved : goal.aliases-preserved
aliases-preserved c =
    let fs = c.args.named.now in
    let at = c.aliases.at in
    let t = use_view c.aliases.current in
    let gs = lists_view c.aliases.given.items in
    let next = use_view c.in-Some-Follows.next in
    let of = c.in-Some-Follows.file_index in
    let refers = subst (λ (o : Option CodeTarget). IfSome o (λ x. LeadsTo fs at t (target_view x))) (c.in-Some-Follows.is ∙ ap Some c.in-Some-Follows.field-0-is) c.in_ok-leads_to.ensures.found in
    let lists : lists_view c.push_given.new.given.items ≡ gs ++ given_in at t = c.in_ok-push_given.ensures.lists in
    let h = reached_next fs c.args.file_index (use_view c.args.of) gs at t c.aliases.invariant.reached of next refers in
    record {
      reached = subst (λ (l : List Given). IsReached fs c.args.file_index (use_view c.args.of) l of next) (sym lists) h;
      long = c.in_ok-push_given.ensures.long c.aliases.invariant.long;
    }
