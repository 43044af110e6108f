use Rattle.std.proofs.Common.{rules, ◌≡◌, ◌<◌, ◌∙◌, ◌++◌, ◌∷◌, [], ℤ, List, Some, length, get_or, map, ap, subst, arith, refl}
use Rattle.std.specs.Prelude.{pos, slice_get}
use Rattle.std.specs.List.{Contains}
use Rattle.std.proofs.lemmas.Int.{to_z-of_z}
use Rattle.std.proofs.lemmas.List.{get_or_default}
use Rattle.std.proofs.lemmas.Option.{slice_get-get_or}
use Rattle.fidl_tree.specs.Views.{value_member_view, kind_view}
use Rattle.fidl_cycles.proofs.Lists.{all_take}
use mir.Val.{SFits, of_z, to_z}
use mir.Syntax.{w128}
use Rattle.fidl_member_rules.specs.Numbers.{IsPowerOfTwo}
use Rattle.fidl_member_rules.specs.ValueRules.{duplicate_rule, power_rule, IsNoPower, MemberBreaks}
use Rattle.fidl_member_rules.proofs.Listing.{keys_more, differ_more, seen_at}
use Rattle.fidl_member_rules.proofs.ValueReports.{report_here}
use Rattle.fidl_member_rules.proofs.value_rules.check_numbers.Goals as goal

pub returns-in_err-check_power-clause-fault_is_true : goal.returns-in_err-check_power-clause-fault_is_true
returns-in_err-check_power-clause-fault_is_true c =
    let zs = c.args.numbers.now in
    let i = c.loop-rank.rank in
    let z = get_or zs i (pos 0) in
    let f : SFits w128 z = search rules in
    let same : to_z w128 (of_z w128 z) ≡ z = to_z-of_z w128 z f in
    let m = c.index-members-rank.result in
    let values = kind_view c.args.keyword.now in
    let within : i < length c.args.members.now = omega (arith, c.loop-rank-test.true, c.requires) in
    let at : slice_get (map value_member_view c.args.members.now) i ≡ Some (value_member_view m) = seen_at value_member_view c.args.members.now i m within c.index-members-rank.is in
    let h = report_here c.args.file_index m.name c.place_of-place.result c.place_of-place.ensures.file c.place_of-place.ensures.span power_rule (IsNoPower values (to_z w128 (of_z w128 z))) (MemberBreaks values (map value_member_view c.args.members.now) zs)
    (λ b. record { rank = i; member = value_member_view m; at = at; name_is = refl; number = z; number_at = slice_get-get_or zs i (pos 0) c.loop-rank-test.true; breaks = (b.0, subst (λ (y : ℤ). IsPowerOfTwo y → ⊥) same b.1) })
    c.in_err-check_power.field-0.0 c.in_err-check_power.ensures.fault_is_true in
    search (rules, h)

pub returns-in_err-add_number-clause-fault_is_true : goal.returns-in_err-add_number-clause-fault_is_true
returns-in_err-add_number-clause-fault_is_true c =
    let zs = c.args.numbers.now in
    let i = c.loop-rank.rank in
    let z = get_or zs i (pos 0) in
    let f : SFits w128 z = search rules in
    let same : to_z w128 (of_z w128 z) ≡ z = to_z-of_z w128 z f in
    let m = c.index-members-rank.result in
    let values = kind_view c.args.keyword.now in
    let within : i < length c.args.members.now = omega (arith, c.loop-rank-test.true, c.requires) in
    let at : slice_get (map value_member_view c.args.members.now) i ≡ Some (value_member_view m) = seen_at value_member_view c.args.members.now i m within c.index-members-rank.is in
    let h = report_here c.args.file_index m.name c.place_of-place.result c.place_of-place.ensures.file c.place_of-place.ensures.span duplicate_rule (Contains c.loop-rank.known.keys (to_z w128 (of_z w128 z))) (MemberBreaks values (map value_member_view c.args.members.now) zs)
    (λ b. record { rank = i; member = value_member_view m; at = at; name_is = refl; number = z; number_at = slice_get-get_or zs i (pos 0) c.loop-rank-test.true; breaks = subst (λ (l : List ℤ). Contains l z) c.loop-rank.invariant.so_far (subst (Contains c.loop-rank.known.keys) same b) })
    c.in_err-add_number.field-0.0 c.in_err-add_number.ensures.fault_is_true in
    search (rules, h)

pub loop-rank-preserved : goal.loop-rank-preserved
loop-rank-preserved c =
    let zs = c.args.numbers.now in
    let i = c.loop-rank.rank in
    let z = get_or zs i (pos 0) in
    let f : SFits w128 z = search rules in
    let same : to_z w128 (of_z w128 z) ≡ z = to_z-of_z w128 z f in
    let lt = c.loop-rank-test.true in
    let is : z ≡ get_or zs i z = get_or_default zs i (pos 0) z lt in
    let so_far = c.loop-rank.invariant.so_far in
    let added : c.add_number.new.numbers.keys ≡ c.loop-rank.known.keys ++ z ∷ [] = c.in_ok-add_number.ensures.ok ∙ ap (λ (y : ℤ). c.loop-rank.known.keys ++ y ∷ []) same in
    record {
      so_far = keys_more zs c.loop-rank.known.keys i z lt is so_far c.add_number.new.numbers.keys added;
      differ = differ_more zs c.loop-rank.known.keys i z lt is so_far (subst (λ (y : ℤ). Contains c.loop-rank.known.keys y → ⊥) same c.in_ok-add_number.ensures.fresh) c.loop-rank.invariant.differ;
      powers = λ b. all_take zs i z lt is IsPowerOfTwo (c.loop-rank.invariant.powers b) (subst IsPowerOfTwo same (c.in_ok-check_power.ensures.ok b));
    }
