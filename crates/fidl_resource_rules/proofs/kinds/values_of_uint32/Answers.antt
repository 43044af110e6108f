use Rattle.std.proofs.Common.{◌≡◌, ◌∙◌, Option, Some, ap, refl, sym, subst, true≢false}
use Rattle.std.specs.Prelude.{IfSome, IsNone}
use Rattle.fidl_tree.specs.Syntax.{ValuesKind}
use Rattle.fidl_tree.specs.Views.{values_view}
use Rattle.fidl_constraints.specs.Behind.{Core, layout_head, Behind}
use Rattle.fidl_constraints.specs.BehindViews.{core_view, head_view, use_view}
use Rattle.fidl_constraints.specs.declared.heads.Core.{Core as CodeCore}
use Rattle.fidl_constraints.proofs.OneBehind.{one_behind}
use Rattle.fidl_constraints.proofs.InSet.{head_within}
use Rattle.fidl_resource_rules.specs.Kinds.{LayoutSuits}
use Rattle.fidl_resource_rules.proofs.Layouts.{kind_suits, suits_behind}
use Rattle.fidl_resource_rules.proofs.kinds.values_of_uint32.Goals as goal

pub returns-in_default-clause-only : goal.returns-in_default-clause-only
returns-in_default-clause-only c = λ kind h.
    let none = subst (λ (o : Option CodeCore). IsNone o → (core : Core) → Behind c.args.sources.now.named.now c.args.file_index (use_view c.args.of) core → ⊥) c.in_default.is c.in_ok-core.ensures.none refl in
    absurd (none h.core h.behind)

pub returns-in_default-values_in-clause-only : goal.returns-in_default-values_in-clause-only
returns-in_default-values_in-clause-only c = λ kind h.
    let fs = c.args.sources.now.named.now in
    let t = use_view c.args.of in
    let core = c.in-Some.core in
    let its : Behind fs c.args.file_index t (core_view core) = subst (λ (o : Option CodeCore). IfSome o (λ x. Behind fs c.args.file_index t (core_view x))) c.in-Some.is c.in_ok-core.ensures.found in
    let same : h.core ≡ core_view core = one_behind fs c.args.file_index t h.core (core_view core) h.behind its in
    let head : head_view core.head ≡ layout_head h.layout = sym (ap (λ (x : Core). x.head) same) ∙ h.is in
    absurd (c.in_default-values_in.ensures.none refl fs h.core.file kind h.layout head h.suits)

pub is_of_uint32-requires-clause-within : goal.is_of_uint32-requires-clause-within
is_of_uint32-requires-clause-within c =
    let fs = c.args.sources.now.named.now in
    let t = use_view c.args.of in
    let its = subst (λ (o : Option CodeCore). IfSome o (λ x. Behind fs c.args.file_index t (core_view x))) c.in-Some.is c.in_ok-core.ensures.found in
    head_within fs c.args.file_index t (core_view c.in-Some.core) c.requires.within its

pub returns-then-branch-clause-found : goal.returns-then-branch-clause-found
returns-then-branch-clause-found c =
    let fs = c.args.sources.now.named.now in
    let t = use_view c.args.of in
    let its = subst (λ (o : Option CodeCore). IfSome o (λ x. Behind fs c.args.file_index t (core_view x))) c.in-Some.is c.in_ok-core.ensures.found in
    record {
      core = core_view c.in-Some.core;
      layout = values_view c.in-Some-values_in.layout.now;
      behind = its;
      is = c.in-Some-values_in.ensures.found;
      suits = c.in_ok-is_of_uint32.ensures.0 c.if-branch.true;
    }

pub returns-then-branch-clause-only : goal.returns-then-branch-clause-only
returns-then-branch-clause-only c = λ kind h.
    let fs = c.args.sources.now.named.now in
    let t = use_view c.args.of in
    let core = core_view c.in-Some.core in
    let l = c.in-Some-values_in.layout.now in
    let its = subst (λ (o : Option CodeCore). IfSome o (λ x. Behind fs c.args.file_index t (core_view x))) c.in-Some.is c.in_ok-core.ensures.found in
    let suits = suits_behind fs c.args.file_index t kind core (values_view l) its c.in-Some-values_in.ensures.found h in
    ap Some (kind_suits l fs core.file kind suits)

pub returns-clause-only : goal.returns-clause-only
returns-clause-only c = λ kind h.
    let fs = c.args.sources.now.named.now in
    let t = use_view c.args.of in
    let core = core_view c.in-Some.core in
    let l = c.in-Some-values_in.layout.now in
    let its = subst (λ (o : Option CodeCore). IfSome o (λ x. Behind fs c.args.file_index t (core_view x))) c.in-Some.is c.in_ok-core.ensures.found in
    let suits = suits_behind fs c.args.file_index t kind core (values_view l) its c.in-Some-values_in.ensures.found h in
    let own = subst (λ (k : ValuesKind). LayoutSuits fs core.file k (values_view l)) (sym (kind_suits l fs core.file kind suits)) suits in
    absurd (true≢false (sym (c.in_ok-is_of_uint32.ensures.1 own) ∙ c.if-branch.false))
