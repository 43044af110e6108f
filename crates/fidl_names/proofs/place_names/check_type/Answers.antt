use Rattle.std.proofs.Common.{inr}
use Rattle.std.specs.Prelude.{Some, option_map, option_copied}
use Rattle.std.proofs.lemmas.Result.{err_from_is_err_and, on_ok_weaker}
use Rattle.fidl_tree.specs.Views.{path_view, constraints_view}
use Rattle.fidl_named.specs.Places.{a_type}
use Rattle.fidl_named.specs.Constraints.{ItemsHold, ItemsFail}
use Rattle.fidl_names.specs.Resolved.{PlaceHolds, PlaceFails, of_constraint}
use Rattle.fidl_named.specs.Scopes.{IsMemoryOr}
use Rattle.fidl_named.proofs.Judging.{reported_more}
use Rattle.fidl_named.proofs.PathViews.{means_seen, refusal_seen, wants_view}
use Rattle.fidl_names.proofs.place_names.check_type.Goals as goal

pub returns-in_err-meaning-clause-fault_is_true : goal.returns-in_err-meaning-clause-fault_is_true
returns-in_err-meaning-clause-fault_is_true c =
    let files = c.args.scope.now.named.now in
    let f = c.args.scope.now.file.now in
    let of = option_copied c.args.argument_of in
    let place = a_type (option_map path_view of) (path_view c.args.path.now) (constraints_view (option_copied c.args.constraints)) in
    let fault = c.in_err-meaning.field-0.0 in
    let kind = c.in_ok-kind.kind in
    let wants = wants_view files f of kind c.in_ok-kind.ensures in
    let fails = refusal_seen files f c.args.scope.now.file_index kind c.args.path.now fault c.in_err-meaning.ensures.fault_is_true in
    let h : IsMemoryOr (λ fault. PlaceFails files f c.args.scope.now.file_index fault place) fault = inr (PlaceFails.of_type _ _ _ kind wants fails) in
    let p = err_from_is_err_and c.from_residual-in_err-meaning.result c.from_residual-in_err-meaning.ensures.1 in
    rw (p.1, p.2) h

pub returns-clause-ok : goal.returns-clause-ok
returns-clause-ok c =
    let files = c.args.scope.now.named.now in
    let f = c.args.scope.now.file.now in
    let of = option_copied c.args.argument_of in
    let cs = constraints_view (option_copied c.args.constraints) in
    let kind = c.in_ok-kind.kind in
    let wants = wants_view files f of kind c.in_ok-kind.ensures in
    let means = means_seen files f kind c.args.path.now c.in_ok-meaning.meaning c.in_ok-meaning.ensures.ok in
    on_ok_weaker c.check_items.result
    (λ (h : ItemsHold files f (Some c.resolved-end.result) cs). PlaceHolds.of_type _ _ _ kind c.in_ok-meaning.meaning c.resolved-end.result wants means c.resolved-end.ensures h)
    c.check_items.ensures.ok

pub returns-clause-fault_is_true : goal.returns-clause-fault_is_true
returns-clause-fault_is_true c =
    let files = c.args.scope.now.named.now in
    let f = c.args.scope.now.file.now in
    let of = option_copied c.args.argument_of in
    let cs = constraints_view (option_copied c.args.constraints) in
    let place = a_type (option_map path_view of) (path_view c.args.path.now) cs in
    let kind = c.in_ok-kind.kind in
    let wants = wants_view files f of kind c.in_ok-kind.ensures in
    let means = means_seen files f kind c.args.path.now c.in_ok-meaning.meaning c.in_ok-meaning.ensures.ok in
    reported_more (ItemsFail files f c.args.scope.now.file_index (Some c.resolved-end.result) cs) (λ fault. PlaceFails files f c.args.scope.now.file_index fault place)
    (λ fault h. of_constraint _ _ _ kind c.in_ok-meaning.meaning c.resolved-end.result wants means c.resolved-end.ensures h)
    c.check_items.result c.check_items.ensures.fault_is_true
