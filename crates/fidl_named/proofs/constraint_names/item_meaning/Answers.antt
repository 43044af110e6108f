use Rattle.std.proofs.Common.{inr, subst}
use Rattle.std.proofs.lemmas.Result.{IfOk-weaker, IfErr-weaker}
use Rattle.fidl_tree.specs.Views.{path_view}
use Rattle.fidl_named.specs.declared.fault.NameFault.{NameFault}
use Rattle.fidl_named.specs.declared.meaning.Meaning.{Meaning}
use Rattle.fidl_named.specs.declared.meaning.Wanted.{Wanted}
use Rattle.fidl_named.specs.Meanings.{components, IsJust, Means, IsTrueOfName}
use Rattle.fidl_named.specs.Constraints.{item_kind, IsOfProperty, NameOfItemFails, ordinary_name}
use Rattle.fidl_named.specs.Scopes.{IsMemoryOr}
use Rattle.fidl_named.proofs.PathViews.{means_seen, refusal_seen}
use Rattle.fidl_named.proofs.constraint_names.item_meaning.Goals as goal

pub returns-in-None-clause-ok : goal.returns-in-None-clause-ok
returns-in-None-clause-ok c =
    let files = c.args.scope.now.named.now in
    let f = c.args.scope.now.file.now in
    let p = path_view c.args.path.now in
    let none : (m : Meaning) → IsOfProperty files f c.args.end c.args.rank p m → ⊥ = subst (IsJust (IsOfProperty files f c.args.end c.args.rank p)) c.in-None.is c.in_ok-meaning.ensures in
    IfOk-weaker c.read.result _ _ (λ (m : Meaning) h. ordinary_name none (means_seen files f (item_kind c.args.end) c.args.path.now m (subst (λ (kind : Wanted). Means files f kind (components f.src.now c.args.path.now) m) c.item_kind.ensures h))) c.read.ensures.ok

pub returns-in-None-clause-fault_is_true : goal.returns-in-None-clause-fault_is_true
returns-in-None-clause-fault_is_true c =
    let files = c.args.scope.now.named.now in
    let f = c.args.scope.now.file.now in
    let tree = c.args.path.now in
    let p = path_view tree in
    let none : (m : Meaning) → IsOfProperty files f c.args.end c.args.rank p m → ⊥ = subst (IsJust (IsOfProperty files f c.args.end c.args.rank p)) c.in-None.is c.in_ok-meaning.ensures in
    let fails = λ (fault : NameFault). λ (h : IsTrueOfName files f c.args.scope.now.file_index c.item_kind.result tree fault).
    let its : NameOfItemFails files f c.args.scope.now.file_index c.args.end c.args.rank p fault = record {
      no_property = none;
      fails = refusal_seen files f c.args.scope.now.file_index (item_kind c.args.end) tree fault (subst (λ (kind : Wanted). IsTrueOfName files f c.args.scope.now.file_index kind tree fault) c.item_kind.ensures h);
    } in
    let fault_is_true : IsMemoryOr (NameOfItemFails files f c.args.scope.now.file_index c.args.end c.args.rank p) fault = inr its in
    fault_is_true in
    IfErr-weaker c.read.result _ _ fails c.read.ensures.fault_is_true
