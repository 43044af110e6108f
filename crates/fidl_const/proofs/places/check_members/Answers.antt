use Rattle.std.proofs.Common.{◌≡◌, ◌<◌, ◌∙◌, map, length, get_or, ap, sym, subst, arith}
use Rattle.std.proofs.Math.ListN.{get_or-map, length-map}
use Rattle.std.specs.List.{Contains}
use Rattle.std.proofs.lemmas.List.Elements.{Contains-get_or}
use Rattle.std.proofs.lemmas.Result.{err_from_is_err_and}
use Rattle.fidl_tree.specs.Views.{value_view, value_member_view}
use Rattle.fidl_consts.specs.declared.const_type.ConstType.TheVariants as ty
use Rattle.fidl_consts.specs.PlainValues.{seen}
use Rattle.fidl_consts.specs.Refusals.{ValueFails}
use Rattle.fidl_consts.specs.Places.{MemberHolds, MembersFail}
use Rattle.fidl_cycles.proofs.Lists.{all_take}
use Rattle.fidl_consts.proofs.Among.{among_map}
use Rattle.fidl_consts.proofs.Reports.{reports_more}
use Rattle.fidl_const.proofs.places.check_members.Goals as goal

pub returns-in_err-value_in-clause-fault_is_true : goal.returns-in_err-value_in-clause-fault_is_true
returns-in_err-value_in-clause-fault_is_true c =
    let files = c.args.scope.now.file.named.now in
    let f = c.args.scope.now.file.tree.now in
    let ms = c.args.members.now in
    let m = c.member-item.result in
    let lt = c.loop-member-test.true in
    let here : Contains ms m = subst (Contains ms) (sym c.member-item.is) (Contains-get_or ms c.loop-member.member-index m (omega arith)) in
    let there = among_map value_member_view ms m here in
    let h = reports_more (λ fault. ValueFails files f c.args.scope.now.file.file_index (ty.Number c.args.kind) fault (value_view m.value)) (MembersFail files f c.args.scope.now.file.file_index c.args.kind (map value_member_view ms)) (λ fault k. record { member = value_member_view m; among = there; fails = k })
    c.in_err-value_in.field-0.0 c.in_err-value_in.ensures.fault_is_true in
    let p = err_from_is_err_and c.from_residual.result c.from_residual.ensures.1 in
    rw (p.1, p.2) h

pub loop-member-preserved : goal.loop-member-preserved
loop-member-preserved c =
    let ms = c.args.members.now in
    let m = c.member-item.result in
    let i = c.loop-member.member-index in
    let lt = c.loop-member-test.true in
    let within : i < length (map value_member_view ms) = omega (arith, lt, length-map ms value_member_view) in
    let is : value_member_view m ≡ get_or (map value_member_view ms) i (value_member_view m) = ap value_member_view c.member-item.is ∙ sym (get_or-map value_member_view ms i m) in
    all_take (map value_member_view ms) i (value_member_view m) within is (MemberHolds c.args.scope.now.file.named.now c.args.scope.now.file.tree.now c.args.kind) c.loop-member.invariant
    (record { known = seen c.in_ok-value_in.field-0; is = c.in_ok-value_in.ensures.ok })
