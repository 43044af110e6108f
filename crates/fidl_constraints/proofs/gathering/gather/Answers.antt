use Rattle.std.proofs.Common.{◌≡◌, ◌∙◌, List, ap, refl, sym, subst}
use Rattle.std.specs.Prelude.{Option, IfSome, IsNone}
use Rattle.fidl_constraints.specs.declared.heads.Core.{Core as CodeCore}
use Rattle.fidl_constraints.specs.declared.heads.Given.{Given as CodeGiven}
use Rattle.fidl_constraints.specs.Behind.{Core, Behind}
use Rattle.fidl_constraints.specs.BehindViews.{core_view, lists_view, use_view}
use Rattle.fidl_constraints.proofs.OneBehind.{one_behind}
use Rattle.fidl_constraints.specs.declared.parts.Part.{Part}
use Rattle.fidl_constraints.specs.declared.parts.Parts.{Parts}
use Rattle.fidl_constraints.specs.Items.{Item, all_items}
use Rattle.fidl_constraints.specs.ItemViews.{items_view, AreInSet, ItemsInSet}
use Rattle.fidl_constraints.specs.Parts.{GivenOnce}
use Rattle.fidl_constraints.specs.Gives.{EachGives}
use Rattle.fidl_constraints.proofs.InSet.{lists_within, items_within, items_listed}
use Rattle.fidl_constraints.proofs.gathering.gather.Goals as goal

pub all_items-requires : goal.all_items-requires
all_items-requires c =
    let fs = c.args.named.now in
    let t = use_view c.args.of in
    let behind = subst (λ (o : Option CodeCore). IfSome o (λ core. Behind fs c.args.file_index t (core_view core))) c.in-Some.is c.in_ok-core.ensures.found in
    let within = lists_within fs c.args.file_index t (core_view c.in-Some.core) c.requires.within behind in
    subst (λ (l : List CodeGiven). AreInSet fs (lists_view l)) (sym c.deref.ensures.value) within

pub all_parts-requires-clause-within : goal.all_parts-requires-clause-within
all_parts-requires-clause-within c =
    let fs = c.args.named.now in
    let t = use_view c.args.of in
    let behind = subst (λ (o : Option CodeCore). IfSome o (λ core. Behind fs c.args.file_index t (core_view core))) c.in-Some.is c.in_ok-core.ensures.found in
    let within = lists_within fs c.args.file_index t (core_view c.in-Some.core) c.requires.within behind in
    let listed = subst (λ (l : List CodeGiven). AreInSet fs (lists_view l)) (sym c.deref.ensures.value) within in
    let its = items_within fs (lists_view c.deref.result.now) listed in
    let is : items_view c.deref-2.result.now ≡ all_items fs (lists_view c.deref.result.now) = ap items_view c.deref-2.ensures.value ∙ c.in_ok-items.ensures ∙ sym (items_listed fs c.deref.result.now) in
    subst (ItemsInSet fs) (sym is) its

pub returns-in-None-clause-none : goal.returns-in-None-clause-none
returns-in-None-clause-none c = λ _ core parts h.
    let fs = c.args.named.now in
    let t = use_view c.args.of in
    let its = core_view c.in-Some.core in
    let behind = subst (λ (o : Option CodeCore). IfSome o (λ core. Behind fs c.args.file_index t (core_view core))) c.in-Some.is c.in_ok-core.ensures.found in
    let same : core ≡ its = one_behind fs c.args.file_index t core its h.behind behind in
    let gives : EachGives fs its.head (all_items fs its.given) parts = subst (λ (x : Core). EachGives fs x.head (all_items fs x.given) parts) same h.gives in
    let items : items_view c.deref-2.result.now ≡ all_items fs its.given =
    ap items_view c.deref-2.ensures.value ∙ (c.in_ok-items.ensures ∙ sym (items_listed fs c.deref.result.now) ∙ ap (λ (l : List CodeGiven). all_items fs (lists_view l)) c.deref.ensures.value) in
    let none = subst (λ (o : Option Parts). IsNone o → (ps : List Part) → EachGives fs its.head (items_view c.deref-2.result.now) ps → GivenOnce ps → ⊥) c.in-None.is c.in_ok-all_parts.ensures.none refl in
    none parts (subst (λ (xs : List Item). EachGives fs its.head xs parts) (sym items) gives) h.once

pub returns-clause-found : goal.returns-clause-found
returns-clause-found c =
    let fs = c.args.named.now in
    let t = use_view c.args.of in
    let its = core_view c.in-Some.core in
    let items : items_view c.deref-2.result.now ≡ all_items fs its.given =
    ap items_view c.deref-2.ensures.value ∙ (c.in_ok-items.ensures ∙ sym (items_listed fs c.deref.result.now) ∙ ap (λ (l : List CodeGiven). all_items fs (lists_view l)) c.deref.ensures.value) in
    let gives = subst (λ (o : Option Parts). IfSome o (λ parts. EachGives fs its.head (items_view c.deref-2.result.now) parts.list.items)) c.in-Some-2.is c.in_ok-all_parts.ensures.gives in
    record {
      behind = subst (λ (o : Option CodeCore). IfSome o (λ core. Behind fs c.args.file_index t (core_view core))) c.in-Some.is c.in_ok-core.ensures.found;
      gives = subst (λ (xs : List Item). EachGives fs its.head xs c.in-Some-2.parts.list.items) items gives;
      once = subst (λ (o : Option Parts). IfSome o (λ parts. GivenOnce parts.list.items)) c.in-Some-2.is c.in_ok-all_parts.ensures.once;
    }
