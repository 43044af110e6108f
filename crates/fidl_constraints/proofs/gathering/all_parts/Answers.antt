use Rattle.std.proofs.Common.{◌≡◌, ◌<◌, ◌+◌, ◌∙◌, List, false, length, take, ap, refl, sym, subst, true≢false}
use Rattle.std.specs.Prelude.{Option, IfSome, IsNone}
use Rattle.fidl_cycles.proofs.Lists.{all_get as all_at}
use Rattle.fidl_constraints.specs.BehindViews.{head_view}
use Rattle.fidl_constraints.specs.declared.parts.Part.{Part}
use Rattle.fidl_constraints.specs.Items.{Item}
use Rattle.fidl_constraints.specs.ItemViews.{item_view, items_view}
use Rattle.fidl_constraints.specs.Parts.{has_kind, GivenOnce}
use Rattle.fidl_constraints.specs.Gives.{Gives, EachGives}
use Rattle.fidl_constraints.proofs.Pairing.{zip_at, given_once, once_more, item_there, each_more}
use Rattle.fidl_constraints.proofs.gathering.all_parts.Goals as goal

pub part_of-requires-clause-within : goal.part_of-requires-clause-within
part_of-requires-clause-within c =
    let fs = c.args.scope.named.now in
    let at = item_there fs (head_view c.args.head) c.args.items.now c.loop-item.item-index c.item-item.result c.loop-item-test.true c.item-item.is in
    all_at (λ (x : Item). x.file < length fs) (items_view c.args.items.now) c.loop-item.item-index (item_view c.item-item.result) c.requires.within at

pub returns-in_default-clause-none : goal.returns-in_default-clause-none
returns-in_default-clause-none c = λ _ ps gives once.
    let fs = c.args.scope.named.now in
    let head = head_view c.args.head in
    let x = item_view c.item-item.result in
    let at = item_there fs head c.args.items.now c.loop-item.item-index c.item-item.result c.loop-item-test.true c.item-item.is in
    let p = zip_at (Gives fs head) (items_view c.args.items.now) ps c.loop-item.item-index x gives at in
    let none = subst (λ (o : Option Part). IsNone o → (q : Part) → Gives fs head x q → ⊥) c.in_default.is c.in_ok-part.ensures.none refl in
    none p.0 p.1

pub returns-then-has_kind-clause-none : goal.returns-then-has_kind-clause-none
returns-then-has_kind-clause-none c = λ _ ps gives once.
    let fs = c.args.scope.named.now in
    let head = head_view c.args.head in
    let xs = items_view c.args.items.now in
    let i = c.loop-item.item-index in
    let x = item_view c.item-item.result in
    let part = c.in-Some.part in
    let at = item_there fs head c.args.items.now i c.item-item.result c.loop-item-test.true c.item-item.is in
    let given = subst (λ (o : Option Part). IfSome o (Gives fs head x)) c.in-Some.is c.in_ok-part.ensures.found in
    let off = given_once fs head xs i x c.loop-item.list.items part ps c.loop-item.invariant.gives at given gives once in
    let on = ap (has_kind part.kind) (sym c.deref.ensures.value) ∙ (sym c.has_kind.ensures ∙ c.if-has_kind.true) in
    true≢false (sym on ∙ off)

pub loop-item-preserved : goal.loop-item-preserved
loop-item-preserved c =
    let fs = c.args.scope.named.now in
    let head = head_view c.args.head in
    let i = c.loop-item.item-index in
    let item = c.item-item.result in
    let list = c.loop-item.list.items in
    let part = c.in-Some.part in
    let given = subst (λ (o : Option Part). IfSome o (Gives fs head (item_view item))) c.in-Some.is c.in_ok-part.ensures.found in
    let off : has_kind part.kind list ≡ false = ap (has_kind part.kind) (sym c.deref.ensures.value) ∙ (sym c.has_kind.ensures ∙ c.if-has_kind.false) in
    let pushed = sym c.in_ok-push.ensures.items in
    record {
      gives = subst (λ (l : List Part). EachGives fs head (take (i + 1) (items_view c.args.items.now)) l) pushed (each_more fs head c.args.items.now i item c.loop-item-test.true c.item-item.is list part c.loop-item.invariant.gives given);
      once = subst GivenOnce pushed (once_more list part c.loop-item.invariant.once off);
    }
