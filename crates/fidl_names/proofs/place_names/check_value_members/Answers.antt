use Rattle.std.proofs.Common.{◌≡◌, ◌<◌, map, length, get_or, ap, sym, subst, ◌∙◌, arith}
use Rattle.std.specs.List.{Contains}
use Rattle.std.proofs.lemmas.List.Elements.{Contains-get_or}
use Rattle.std.proofs.lemmas.Result.{err_from_is_err_and}
use Rattle.std.proofs.Math.ListN.{get_or-map, length-map}
use Rattle.fidl_tree.specs.Syntax.{ValueMember}
use Rattle.fidl_tree.specs.Views.{value_member_view}
use Rattle.fidl_named.specs.Constraints.{ValueMeans, NameOfValueFails}
use Rattle.fidl_names.specs.Resolved.{MemberFails}
use Rattle.fidl_cycles.proofs.Lists.{all_take}
use Rattle.fidl_named.proofs.Judging.{reports_more}
use Rattle.fidl_names.proofs.place_names.check_value_members.Goals as goal

pub returns-in_err-check_value-clause-fault_is_true : goal.returns-in_err-check_value-clause-fault_is_true
returns-in_err-check_value-clause-fault_is_true c =
    let files = c.args.scope.now.named.now in
    let f = c.args.scope.now.file.now in
    let trees = c.args.members.now in
    let ms = map value_member_view trees in
    let i = c.loop-member.member-index in
    let m = value_member_view c.member-item.result in
    let lt = c.loop-member-test.true in
    let within : i < length ms = omega (arith, length-map trees value_member_view) in
    let is : m ≡ get_or ms i m = ap value_member_view c.member-item.is ∙ sym (get_or-map value_member_view trees i c.member-item.result) in
    let there : Contains ms m = subst (Contains ms) (sym is) (Contains-get_or ms i m within) in
    let h = reports_more (NameOfValueFails files f c.args.scope.now.file_index m.value) (MemberFails files f c.args.scope.now.file_index ms) (λ fault k. record { member = m; among = there; fails = k }) c.in_err-check_value.field-0.0 c.in_err-check_value.ensures.fault_is_true in
    let p = err_from_is_err_and c.from_residual.result c.from_residual.ensures.1 in
    rw (p.1, p.2) h

pub loop-member-preserved : goal.loop-member-preserved
loop-member-preserved c =
    let trees = c.args.members.now in
    let ms = map value_member_view trees in
    let i = c.loop-member.member-index in
    let m = value_member_view c.member-item.result in
    let lt = c.loop-member-test.true in
    let within : i < length ms = omega (arith, length-map trees value_member_view) in
    let is : m ≡ get_or ms i m = ap value_member_view c.member-item.is ∙ sym (get_or-map value_member_view trees i c.member-item.result) in
    all_take ms i m within is (λ (x : ValueMember). ValueMeans c.args.scope.now.named.now c.args.scope.now.file.now x.value) c.loop-member.invariant c.in_ok-check_value.ensures.ok
