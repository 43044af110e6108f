use Rattle.std.proofs.Common.{sym}
use Rattle.std.proofs.lemmas.Result.{IfOk-weaker}
use Rattle.fidl_tree.specs.Views.{path_view, value_view}
use Rattle.fidl_consts.specs.declared.const_value.ConstValue.{ConstValue}
use Rattle.fidl_consts.specs.PlainValues.{seen}
use Rattle.fidl_consts.specs.Constraints.{ItemNameGives, ItemNameFails, ItemIs, ItemFails}
use Rattle.fidl_consts.proofs.Judging.{reported_more}
use Rattle.fidl_consts.proofs.constraints.item_value.Goals as goal

pub returns-in-Some-clause-ok : goal.returns-in-Some-clause-ok
returns-in-Some-clause-ok c =
    let files = c.args.scope.now.file.named.now in
    IfOk-weaker c.item_name_value.result (λ (v : ConstValue). ItemNameGives files c.args.scope.now.file.tree.now c.args.end c.args.rank c.args.wanted (path_view c.in-Some.path.now) (seen v))
    (λ (v : ConstValue). ItemIs files c.args.scope.now.file.tree.now c.args.end c.args.rank c.args.wanted (value_view c.args.value.now) (seen v)) (λ v h. ItemIs.by_name (path_view c.in-Some.path.now) (sym c.in-Some.ensures) h) c.item_name_value.ensures.ok

pub returns-in-Some-clause-fault_is_true : goal.returns-in-Some-clause-fault_is_true
returns-in-Some-clause-fault_is_true c =
    let files = c.args.scope.now.file.named.now in
    reported_more (ItemNameFails files c.args.scope.now.file.tree.now c.args.scope.now.file.file_index c.args.end c.args.rank c.args.wanted (path_view c.in-Some.path.now)) (ItemFails files c.args.scope.now.file.tree.now c.args.scope.now.file.file_index c.args.end c.args.rank c.args.wanted (value_view c.args.value.now))
    (λ fault h. ItemFails.by_name (path_view c.in-Some.path.now) (sym c.in-Some.ensures) h) c.item_name_value.result c.item_name_value.ensures.fault_is_true
