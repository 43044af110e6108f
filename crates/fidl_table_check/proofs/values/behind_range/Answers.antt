use Rattle.std.proofs.Common.{rules, ◌≡◌, ◌+◌, pos, ◌++◌, drop, get_or, SFits, to_z, of_z, ◌∙◌, sym, ap, subst, arith}
use Rattle.std.specs.Prelude.{◌+ℤ◌}
use Rattle.std.specs.Int.{w128}
use Rattle.std.proofs.lemmas.Int.{ints, to_z-of_z}
use Rattle.std.proofs.lemmas.List.{take_rest, get_or_default}
use Rattle.fidl_table_format.specs.Terms.{span}
use Rattle.fidl_table_check.proofs.Places.{one_more}
use Rattle.fidl_table_check.proofs.Listed.{begins}
use Rattle.fidl_table_check.proofs.values.behind_range.Goals as goal

pub returns-then-highest-number : goal.returns-then-highest-number
returns-then-highest-number c =
    let zs = c.args.values.now in
    let place = c.loop-place.place in
    let low = to_z w128 (of_z w128 c.args.lowest) in
    let z = get_or zs place (pos 0) in
    let fits : SFits w128 z = search rules in
    let number : z ≡ low +ℤ pos place = sym (to_z-of_z w128 z fits) ∙ ap (to_z w128) c.if-values-place.false ∙ c.loop-place.invariant.number in
    let each = one_more zs (λ k z. z ≡ low +ℤ pos k) place z (get_or_default zs place (pos 0) z c.loop-place-test.true) number c.loop-place.invariant.before in
    let high = c.ranges.highest in
    let last : c.args.highest ≡ low +ℤ pos place = grind (arith, ints) in
    let own : zs ≡ span low c.args.highest ++ drop (place + 1) zs = begins zs low c.args.highest place c.loop-place-test.true last each in
    subst (λ x. zs ≡ span x c.args.highest ++ drop (place + 1) zs) (to_z-of_z w128 c.args.lowest c.ranges.lowest) own
    ∙ ap (λ xs. span c.args.lowest c.args.highest ++ xs) (sym (take_rest zs (place + 1)))

pub loop-place-preserved : goal.loop-place-preserved
loop-place-preserved c =
    let zs = c.args.values.now in
    let place = c.loop-place.place in
    let low = to_z w128 (of_z w128 c.args.lowest) in
    let z = get_or zs place (pos 0) in
    let fits : SFits w128 z = search rules in
    let number : z ≡ low +ℤ pos place = sym (to_z-of_z w128 z fits) ∙ ap (to_z w128) c.if-values-place.false ∙ c.loop-place.invariant.number in
    record {
      number = grind (arith, ints);
      order = grind (arith, ints);
      before = one_more zs (λ k z. z ≡ low +ℤ pos k) place z (get_or_default zs place (pos 0) z c.loop-place-test.true) number c.loop-place.invariant.before;
    }
