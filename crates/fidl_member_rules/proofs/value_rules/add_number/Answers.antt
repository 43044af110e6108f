use Rattle.std.proofs.Common.{◌∙◌, ◌≡◌, sym, subst, refl, ℤ, true, int_eq}
use Rattle.std.specs.List.{list_any}
use Rattle.std.proofs.lemmas.Int.{to_z-of_z}
use Rattle.std.proofs.lemmas.Bool.Decides.{Decides-int_eq}
use Rattle.indexmap.proofs.CallerLemmas.{Contains-list_any}
use mir.Syntax.{w128}
use Rattle.fidl_member_rules.proofs.value_rules.add_number.Goals as goal

pub returns-then-contains-clause-fault_is_true : goal.returns-then-contains-clause-fault_is_true
returns-then-contains-clause-fault_is_true c =
    let same = to_z-of_z w128 c.args.number c.ranges.number in
    let found = subst (λ (z : ℤ). list_any (int_eq z) c.args.numbers.now.keys ≡ true) same (sym c.contains.ensures ∙ c.if-contains.true) in
    (refl, refl, Contains-list_any int_eq (λ x y e. (Decides-int_eq x y).0 e) c.args.numbers.now.keys c.args.number found)
