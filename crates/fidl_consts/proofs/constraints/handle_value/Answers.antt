use Rattle.std.proofs.Common.{◌∙◌, Some, ap}
use Rattle.std.proofs.lemmas.Result.{err_from_is_err_and}
use Rattle.fidl_tree.specs.Views.{value_view}
use Rattle.fidl_consts.specs.Constraints.{HandleValueFails, ItemFails, PropertyWants}
use Rattle.fidl_consts.proofs.ItemNames.{none_is, some_is}
use Rattle.fidl_consts.proofs.Reports.{reports_more}
use Rattle.fidl_consts.proofs.constraints.handle_value.Goals as goal

pub returns-in_default-clause-none : goal.returns-in_default-clause-none
returns-in_default-clause-none c = λ none. c.in_ok-found.ensures.none (none_is c.in_ok-found.field-0 c.in_default.is)

pub returns-in_err-known-clause-fault_is_true : goal.returns-in_err-known-clause-fault_is_true
returns-in_err-known-clause-fault_is_true c =
    let files = c.args.scope.now.file.named.now in
    let wanted = c.in-Some-found.wanted in
    let wants = some_is (PropertyWants files c.args.end c.args.rank) c.in_ok-found.field-0 c.in_ok-found.ensures.found (Some wanted) (c.in-Some.is ∙ ap (λ x. Some x) c.in-Some-found.is) in
    let h = reports_more (ItemFails files c.args.scope.now.file.tree.now c.args.scope.now.file.file_index c.args.end c.args.rank wanted (value_view c.args.value.now)) (HandleValueFails files c.args.scope.now.file.tree.now c.args.scope.now.file.file_index c.args.end c.args.rank (value_view c.args.value.now))
    (λ fault k. HandleValueFails.value wanted wants k) c.in_err-known.field-0.0 c.in_err-known.ensures.fault_is_true in
    let p = err_from_is_err_and c.from_residual-in_err-known.result c.from_residual-in_err-known.ensures.1 in
    rw (p.1, p.2) h

pub returns-clause-found : goal.returns-clause-found
returns-clause-found c =
    let wanted = c.in-Some-found.wanted in
    let wants = some_is (PropertyWants c.args.scope.now.file.named.now c.args.end c.args.rank) c.in_ok-found.field-0 c.in_ok-found.ensures.found (Some wanted) (c.in-Some.is ∙ ap (λ x. Some x) c.in-Some-found.is) in
    record { own = wanted; wants = wants; is = c.in_ok-known.ensures.ok }
