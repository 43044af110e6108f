use Rattle.std.proofs.Common.{Option, refl, subst, ap, inr, zero, lit<}
use Rattle.std.specs.Prelude.{IsNone, IfSome}
use Rattle.fidl_tree.specs.Views.{path_view}
use Rattle.fidl_consts.specs.declared.consts.Entry.{Entry}
use Rattle.fidl_consts.specs.PlainValues.{seen}
use Rattle.std.proofs.lemmas.Result.{IfErr-weaker}
use Rattle.fidl_span.specs.declared.words.Span.{Span}
use Rattle.fidl_named.specs.declared.meaning.Wanted.TheVariants as wanted
use Rattle.fidl_named.specs.declared.meaning.Meaning.{Meaning}
use Rattle.fidl_named.specs.Meanings.{Means}
use Rattle.fidl_named.specs.Paths.{texts}
use Rattle.fidl_consts.specs.declared.fault.ConstFault.TheVariants.{WrongKind}
use Rattle.fidl_consts.specs.Values.{HasValue, Offers}
use Rattle.fidl_consts.specs.Refusals.{NameFails, Misfits, at}
use Rattle.fidl_named.proofs.Justs.{the_just, just_one, no_just}
use Rattle.fidl_consts.proofs.values.name_value.Goals as goal

pub returns-in_default-clause-fault_is_true : goal.returns-in_default-clause-fault_is_true
returns-in_default-clause-fault_is_true c =
    let P = λ (m : Meaning). Means c.args.scope.now.file.named.now c.args.scope.now.file.tree.now wanted.Value (texts c.args.scope.now.file.tree.now.src.now (path_view c.args.path.now)) m in
    let none = no_just P _ (c.in_ok-meaning.ensures c.args.scope.now.file.tree.now c.args.scope.now.file.in_set) c.in_default.not-Some in
    inr (NameFails.nothing (λ m means has. none m means) (ap (λ (s : Span). WrongKind (at c.args.scope.now.file.file_index s)) c.path_place.ensures))

pub value_of-requires-clause-done : goal.value_of-requires-clause-done
value_of-requires-clause-done c =
    let P = λ (m : Meaning). Means c.args.scope.now.file.named.now c.args.scope.now.file.tree.now wanted.Value (texts c.args.scope.now.file.tree.now.src.now (path_view c.args.path.now)) m in
    let means = the_just P _ (c.in_ok-meaning.ensures c.args.scope.now.file.tree.now c.args.scope.now.file.in_set) _ c.in-Some.is in
    c.requires.settled (path_view c.args.path.now) c.in-Some.meaning (zero, lit< tt, refl) means

pub returns-in-None-clause-fault_is_true : goal.returns-in-None-clause-fault_is_true
returns-in-None-clause-fault_is_true c =
    let P = λ (m : Meaning). Means c.args.scope.now.file.named.now c.args.scope.now.file.tree.now wanted.Value (texts c.args.scope.now.file.tree.now.src.now (path_view c.args.path.now)) m in
    let same = just_one P _ (c.in_ok-meaning.ensures c.args.scope.now.file.tree.now c.args.scope.now.file.in_set) _ c.in-Some.is in
    let files = c.args.scope.now.file.named.now in
    let none = subst (λ (o : Option Entry). IsNone o → HasValue files c.in-Some.meaning → ⊥) c.in-None.is c.in_ok-value_of.ensures.none in
    inr (NameFails.nothing (λ m means has. none refl (subst (HasValue files) (same m means) has)) (ap (λ (s : Span). WrongKind (at c.args.scope.now.file.file_index s)) c.path_place.ensures))

pub returns-in-Some-2-clause-fault_is_true : goal.returns-in-Some-2-clause-fault_is_true
returns-in-Some-2-clause-fault_is_true c =
    let P = λ (m : Meaning). Means c.args.scope.now.file.named.now c.args.scope.now.file.tree.now wanted.Value (texts c.args.scope.now.file.tree.now.src.now (path_view c.args.path.now)) m in
    let means = the_just P _ (c.in_ok-meaning.ensures c.args.scope.now.file.tree.now c.args.scope.now.file.in_set) _ c.in-Some.is in
    let files = c.args.scope.now.file.named.now in
    let m = c.in-Some.meaning in
    let offers = subst (λ (o : Option Entry). IfSome o (λ e. Offers files m e.own (seen e.value))) c.in-Some-2.is c.in_ok-value_of.ensures.found in
    IfErr-weaker _ _ _ (λ fault h. inr (NameFails.misfit m means (subst (λ (s : Span). Misfits files m c.args.wanted (at c.args.scope.now.file.file_index s) fault) c.path_place.ensures (h files offers)))) c.given.ensures.fault_is_true
