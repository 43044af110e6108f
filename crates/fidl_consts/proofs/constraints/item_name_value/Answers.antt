use Rattle.std.proofs.Common.{inr, ap}
use Rattle.std.proofs.lemmas.Result.{err_from_is_err_and}
use Rattle.fidl_tree.specs.Views.{path_view}
use Rattle.fidl_consts.specs.declared.consts.Entry.{Entry}
use Rattle.fidl_consts.specs.declared.fault.ConstFault.TheVariants.{WrongKind}
use Rattle.fidl_consts.specs.PlainValues.{seen}
use Rattle.fidl_consts.specs.Values.{Offers}
use Rattle.fidl_consts.specs.Refusals.{at}
use Rattle.fidl_consts.specs.Constraints.{ItemNameFails, PropertyMemberFails}
use Rattle.fidl_consts.proofs.ItemNames.{meant, unmeant, misfit, gives, none_is, some_is}
use Rattle.fidl_consts.proofs.Reports.{reports_more}
use Rattle.fidl_consts.proofs.constraints.item_name_value.Goals as goal

pub returns-in_default-clause-fault_is_true : goal.returns-in_default-clause-fault_is_true
returns-in_default-clause-fault_is_true c =
    unmeant c.args.scope.now.file.named.now c.args.scope.now.file.tree.now c.args.scope.now.file.file_index c.args.end c.args.rank c.args.wanted (path_view c.args.path.now) c.path_place.result c.path_place.ensures c.in_ok-meaning.field-0 c.in_default.is
    (c.in_ok-meaning.ensures.none c.args.scope.now.file.tree.now c.args.scope.now.file.in_set)

pub returns-in_err-item_entry-clause-fault_is_true : goal.returns-in_err-item_entry-clause-fault_is_true
returns-in_err-item_entry-clause-fault_is_true c =
    let files = c.args.scope.now.file.named.now in
    let means = meant files c.args.scope.now.file.tree.now c.args.scope.now.file.file_index c.args.end c.args.rank c.args.wanted (path_view c.args.path.now) c.in_ok-meaning.field-0 (c.in_ok-meaning.ensures.found c.args.scope.now.file.tree.now c.args.scope.now.file.in_set) c.in-Some.meaning c.in-Some.is in
    let h = reports_more (λ fault. PropertyMemberFails files fault c.in-Some.meaning) (ItemNameFails files c.args.scope.now.file.tree.now c.args.scope.now.file.file_index c.args.end c.args.rank c.args.wanted (path_view c.args.path.now))
    (λ fault k. ItemNameFails.member c.in-Some.meaning means k) c.in_err-item_entry.field-0.0 c.in_err-item_entry.ensures.fault_is_true in
    let p = err_from_is_err_and c.from_residual-in_err-item_entry.result c.from_residual-in_err-item_entry.ensures.1 in
    rw (p.1, p.2) h

pub returns-in-None-clause-fault_is_true : goal.returns-in-None-clause-fault_is_true
returns-in-None-clause-fault_is_true c =
    let files = c.args.scope.now.file.named.now in
    let means = meant files c.args.scope.now.file.tree.now c.args.scope.now.file.file_index c.args.end c.args.rank c.args.wanted (path_view c.args.path.now) c.in_ok-meaning.field-0 (c.in_ok-meaning.ensures.found c.args.scope.now.file.tree.now c.args.scope.now.file.in_set) c.in-Some.meaning c.in-Some.is in
    inr (ItemNameFails.valueless c.in-Some.meaning means (c.in_ok-item_entry.ensures.none (none_is c.in_ok-item_entry.field-0 c.in-None.is)) (ap (λ s. WrongKind (at c.args.scope.now.file.file_index s)) c.path_place.ensures))

pub returns-in-Some-2-clause-ok : goal.returns-in-Some-2-clause-ok
returns-in-Some-2-clause-ok c =
    let files = c.args.scope.now.file.named.now in
    let offers = some_is (λ (e : Entry). Offers files c.in-Some.meaning e.own (seen e.value)) c.in_ok-item_entry.field-0 c.in_ok-item_entry.ensures.found c.in-Some-2.entry c.in-Some-2.is in
    gives files c.args.scope.now.file.tree.now c.args.scope.now.file.file_index c.args.end c.args.rank c.args.wanted (path_view c.args.path.now) c.path_place.result c.path_place.ensures c.in_ok-meaning.field-0 (c.in_ok-meaning.ensures.found c.args.scope.now.file.tree.now c.args.scope.now.file.in_set)
    c.in-Some.meaning c.in-Some.is c.in-Some-2.entry offers c.given.result c.given.ensures.ok

pub returns-in-Some-2-clause-fault_is_true : goal.returns-in-Some-2-clause-fault_is_true
returns-in-Some-2-clause-fault_is_true c =
    let files = c.args.scope.now.file.named.now in
    let offers = some_is (λ (e : Entry). Offers files c.in-Some.meaning e.own (seen e.value)) c.in_ok-item_entry.field-0 c.in_ok-item_entry.ensures.found c.in-Some-2.entry c.in-Some-2.is in
    misfit files c.args.scope.now.file.tree.now c.args.scope.now.file.file_index c.args.end c.args.rank c.args.wanted (path_view c.args.path.now) c.path_place.result c.path_place.ensures c.in_ok-meaning.field-0 (c.in_ok-meaning.ensures.found c.args.scope.now.file.tree.now c.args.scope.now.file.in_set)
    c.in-Some.meaning c.in-Some.is c.in-Some-2.entry offers c.given.result c.given.ensures.fault_is_true
