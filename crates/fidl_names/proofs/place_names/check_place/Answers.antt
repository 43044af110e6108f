use Rattle.std.proofs.Common.{inr, map}
use Rattle.std.specs.Prelude.{None, option_map, option_copied}
use Rattle.std.proofs.lemmas.Result.{err_from_is_err_and, on_ok_weaker}
use Rattle.fidl_tree.specs.Views.{path_view, constraints_view, kind_view, value_member_view}
use Rattle.fidl_named.specs.Places.{a_name, a_layout, a_members}
use Rattle.fidl_named.specs.Constraints.{ItemsHold, ItemsFail}
use Rattle.fidl_names.specs.Resolved.{MembersMean, MemberFails, PlaceHolds, PlaceFails}
use Rattle.fidl_named.specs.Scopes.{IsMemoryOr}
use Rattle.fidl_named.proofs.Judging.{reported_more}
use Rattle.fidl_named.proofs.PathViews.{means_seen, refusal_seen}
use Rattle.fidl_names.proofs.place_names.check_place.Goals as goal

pub returns-in_err-read-in-Name-clause-fault_is_true : goal.returns-in_err-read-in-Name-clause-fault_is_true
returns-in_err-read-in-Name-clause-fault_is_true c =
    let files = c.args.scope.now.named.now in
    let f = c.args.scope.now.file.now in
    let fault = c.in_err-read-in-Name.field-0.0 in
    let h : IsMemoryOr (λ fault. PlaceFails files f c.args.scope.now.file_index fault (a_name c.in-Name.kind (path_view c.in-Name.path.now))) fault = inr (PlaceFails.of_name _ _ (refusal_seen files f c.args.scope.now.file_index c.in-Name.kind c.in-Name.path.now fault c.in_err-read-in-Name.ensures.fault_is_true)) in
    let p = err_from_is_err_and c.from_residual.result c.from_residual.ensures.1 in
    rw (p.1, p.2, c.in-Name.is) h

pub returns-in_ok-read-in-Name-clause-ok : goal.returns-in_ok-read-in-Name-clause-ok
returns-in_ok-read-in-Name-clause-ok c =
    let h : PlaceHolds c.args.scope.now.named.now c.args.scope.now.file.now (a_name c.in-Name.kind (path_view c.in-Name.path.now)) = PlaceHolds.of_name _ _ c.in_ok-read-in-Name.field-0 (means_seen c.args.scope.now.named.now c.args.scope.now.file.now c.in-Name.kind c.in-Name.path.now c.in_ok-read-in-Name.field-0 c.in_ok-read-in-Name.ensures.ok) in
    rw c.in-Name.is h

pub returns-in-Layout-clause-ok : goal.returns-in-Layout-clause-ok
returns-in-Layout-clause-ok c =
    rw c.in-Layout.is
    (on_ok_weaker c.check_items.result
    (λ (h : ItemsHold c.args.scope.now.named.now c.args.scope.now.file.now None (constraints_view (option_copied c.in-Layout.constraints))). PlaceHolds.of_layout _ h)
    c.check_items.ensures.ok)

pub returns-in-Layout-clause-fault_is_true : goal.returns-in-Layout-clause-fault_is_true
returns-in-Layout-clause-fault_is_true c =
    let files = c.args.scope.now.named.now in
    let f = c.args.scope.now.file.now in
    let cs = constraints_view (option_copied c.in-Layout.constraints) in
    rw c.in-Layout.is
    (reported_more (ItemsFail files f c.args.scope.now.file_index None cs) (λ fault. PlaceFails files f c.args.scope.now.file_index fault (a_layout cs)) (λ fault h. PlaceFails.of_layout _ h) c.check_items.result c.check_items.ensures.fault_is_true)

pub returns-in-Members-clause-ok : goal.returns-in-Members-clause-ok
returns-in-Members-clause-ok c =
    rw c.in-Members.is
    (on_ok_weaker c.check_value_members.result
    (λ (h : MembersMean c.args.scope.now.named.now c.args.scope.now.file.now (map value_member_view c.in-Members.members.now)). PlaceHolds.of_members _ _ _ h)
    c.check_value_members.ensures.ok)

pub returns-in-Members-clause-fault_is_true : goal.returns-in-Members-clause-fault_is_true
returns-in-Members-clause-fault_is_true c =
    let files = c.args.scope.now.named.now in
    let f = c.args.scope.now.file.now in
    let members = map value_member_view c.in-Members.members.now in
    rw c.in-Members.is
    (reported_more (MemberFails files f c.args.scope.now.file_index members) (λ fault. PlaceFails files f c.args.scope.now.file_index fault (a_members (kind_view c.in-Members.keyword.now) (option_map path_view (option_copied c.in-Members.underlying)) members)) (λ fault h. PlaceFails.of_members _ _ _ h) c.check_value_members.result c.check_value_members.ensures.fault_is_true)

pub returns-in-Number-clause-ok : goal.returns-in-Number-clause-ok
returns-in-Number-clause-ok c = rw c.in-Number.is (PlaceHolds.of_number _ _)
