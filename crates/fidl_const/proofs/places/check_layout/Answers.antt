use Rattle.std.specs.Prelude.{map, option_copied, option_map}
use Rattle.std.specs.List.{AllByRecursion}
use Rattle.std.proofs.lemmas.Result.{err_from_is_err_and, on_ok_weaker}
use Rattle.fidl_named.specs.Places.{a_members}
use Rattle.fidl_tree.specs.Views.{kind_view, path_view, value_member_view}
use Rattle.fidl_consts.specs.Constraints.{UnderlyingFails}
use Rattle.fidl_consts.specs.Places.{MemberHolds, MembersFail, PlaceHolds, PlaceFails}
use Rattle.fidl_consts.proofs.Judging.{reported_more}
use Rattle.fidl_consts.proofs.Reports.{reports_more}
use Rattle.fidl_const.proofs.places.check_layout.Goals as goal

pub returns-in_err-kind-clause-fault_is_true : goal.returns-in_err-kind-clause-fault_is_true
returns-in_err-kind-clause-fault_is_true c =
    let files = c.args.scope.now.file.named.now in
    let f = c.args.scope.now.file.tree.now in
    let underlying = option_map path_view (option_copied c.args.underlying) in
    let h = reports_more (UnderlyingFails files f c.args.scope.now.file.file_index (kind_view c.args.keyword.now) underlying) (λ fault. PlaceFails files f c.args.scope.now.file.file_index fault (a_members (kind_view c.args.keyword.now) underlying (map value_member_view c.args.members.now)))
    (λ fault k. PlaceFails.of_underlying (kind_view c.args.keyword.now) underlying (map value_member_view c.args.members.now) k) c.in_err-kind.field-0.0 c.in_err-kind.ensures.fault_is_true in
    let p = err_from_is_err_and c.from_residual.result c.from_residual.ensures.1 in
    rw (p.1, p.2) h

pub returns-clause-ok : goal.returns-clause-ok
returns-clause-ok c =
    on_ok_weaker c.check_members.result
    (λ (h : AllByRecursion (MemberHolds c.args.scope.now.file.named.now c.args.scope.now.file.tree.now c.in_ok-kind.kind) (map value_member_view c.args.members.now)).
    PlaceHolds.of_members (kind_view c.args.keyword.now) (option_map path_view (option_copied c.args.underlying)) (map value_member_view c.args.members.now) c.in_ok-kind.kind c.in_ok-kind.ensures.ok h)
    c.check_members.ensures.ok

pub returns-clause-fault_is_true : goal.returns-clause-fault_is_true
returns-clause-fault_is_true c =
    let files = c.args.scope.now.file.named.now in
    let f = c.args.scope.now.file.tree.now in
    let underlying = option_map path_view (option_copied c.args.underlying) in
    reported_more (MembersFail files f c.args.scope.now.file.file_index c.in_ok-kind.kind (map value_member_view c.args.members.now)) (λ fault. PlaceFails files f c.args.scope.now.file.file_index fault (a_members (kind_view c.args.keyword.now) underlying (map value_member_view c.args.members.now)))
    (λ fault h. PlaceFails.of_member (kind_view c.args.keyword.now) underlying (map value_member_view c.args.members.now) c.in_ok-kind.kind c.in_ok-kind.ensures.ok h) c.check_members.result c.check_members.ensures.fault_is_true
