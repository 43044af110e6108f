use Rattle.std.proofs.Common.{List, Option, ℤ, ◌++◌, ◌∷◌, [], refl, ap, sym, subst, take, map, ◌+◌, ◌∙◌, ◌≡◌}
use Rattle.std.specs.Prelude.{IfSome, IsNone, FitsSigned}
use Rattle.std.specs.Int.{w128}
use Rattle.std.proofs.lemmas.Int.{to_z-of_z}
use Rattle.fidl_tree.specs.Views.{value_member_view}
use Rattle.fidl_member_rules.specs.Numbers.{HasNumber, NumbersAre}
use Rattle.fidl_member_rules.proofs.Listing.{one_more, one_there}
use Rattle.fidl_member_rules.proofs.numbers.member_numbers.Goals as goal

pub returns-in_default-clause-none : goal.returns-in_default-clause-none
returns-in_default-clause-none c = λ _ zs h.
    let R = HasNumber c.args.scope.named.now c.args.scope.file.now c.args.kind in
    let m = c.member-item.result in
    let none = subst (λ (o : Option ℤ). IsNone o → (z : ℤ) → R (value_member_view m) z → ⊥) c.in_default.is c.in_ok-number.ensures.none refl in
    let one = one_there R value_member_view c.args.members.now c.loop-member.member-index m c.loop-member-test.true c.member-item.is zs h in
    none one.0 one.1

pub loop-member-preserved : goal.loop-member-preserved
loop-member-preserved c =
    let R = HasNumber c.args.scope.named.now c.args.scope.file.now c.args.kind in
    let m = c.member-item.result in
    let i = c.loop-member.member-index in
    let z = c.in-Some.number in
    let given = subst (λ (o : Option ℤ). IfSome o (R (value_member_view m))) c.in-Some.is c.in_ok-number.ensures.found in
    let fits = subst (λ (o : Option ℤ). IfSome o (FitsSigned w128)) c.in-Some.is c.in_ok-number.ensures.fits in
    let more = one_more R value_member_view c.args.members.now i m c.loop-member-test.true c.member-item.is c.loop-member.found.items z c.loop-member.invariant given in
    let pushed : c.loop-member.found.items ++ z ∷ [] ≡ c.push.new.self.items = ap (λ y. c.loop-member.found.items ++ y ∷ []) (sym (to_z-of_z w128 z fits)) ∙ sym c.in_ok-push.ensures.items in
    subst (λ (l : List ℤ). NumbersAre c.args.scope.named.now c.args.scope.file.now c.args.kind (take (i + 1) (map value_member_view c.args.members.now)) l) pushed more
