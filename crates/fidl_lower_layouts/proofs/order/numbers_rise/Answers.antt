use Rattle.std.proofs.Common.{rules, ◌≡◌, ◌-◌, ℤ, ◌<ℤ◌, pos, true, false, get_or, sym, subst, true≢false, refl, arith}
use Rattle.std.specs.Cmp.{int_chain}
use Rattle.std.specs.Int.Signed.{le_z}
use Rattle.std.proofs.lemmas.Int.{to_z-of_z}
use Rattle.std.proofs.lemmas.List.{get_or_default}
use Rattle.std.proofs.lemmas.List.Sorted.{all_adjacent_more}
use mir.Val.{SFits, of_z, to_z}
use mir.Syntax.{w128}
use Rattle.fidl_lower_layouts.proofs.Sorting.{adjacent_rise, above_not, below_not}
use Rattle.fidl_lower_layouts.proofs.order.numbers_rise.Goals as goal

pub loop-place-init : goal.loop-place-init
loop-place-init c = λ k d lt. absurd (omega (arith, lt))

pub returns-then-numbers-place : goal.returns-then-numbers-place
returns-then-numbers-place c = (
  λ is. absurd (true≢false (sym is)),
  λ rise.
      let zs = c.args.numbers.now in
      let place = c.loop-place.place in
      let y = get_or zs (place - 1) (pos 0) in
      let z = get_or zs place (pos 0) in
      let at = c.loop-place.auto.place in
      let one : SFits w128 y = search rules in
      let other : SFits w128 z = search rules in
      let tested : le_z z y ≡ true = subst (λ (x : ℤ). le_z x y ≡ true) (to_z-of_z w128 z other) (subst (λ (x : ℤ). le_z (to_z w128 (of_z w128 z)) x ≡ true) (to_z-of_z w128 y one) c.if-numbers-place.true) in
      absurd (below_not y z (rise (place - 1) place (pos 0) (omega (arith, at)) c.loop-place-test.true) tested),
)

pub loop-place-preserved : goal.loop-place-preserved
loop-place-preserved c =
    let zs = c.args.numbers.now in
    let place = c.loop-place.place in
    let at = c.loop-place.auto.place in
    let within = c.loop-place-test.true in
    let y = get_or zs (place - 1) (pos 0) in
    let z = get_or zs place (pos 0) in
    let one : SFits w128 y = search rules in
    let other : SFits w128 z = search rules in
    let tested : le_z z y ≡ false = subst (λ (x : ℤ). le_z x y ≡ false) (to_z-of_z w128 z other) (subst (λ (x : ℤ). le_z (to_z w128 (of_z w128 z)) x ≡ false) (to_z-of_z w128 y one) c.if-numbers-place.false) in
    all_adjacent_more zs (λ (y z : ℤ). y <ℤ z) place (omega (arith, at)) c.loop-place.invariant (λ d.
    subst (λ (x : ℤ). x <ℤ get_or zs place d) (get_or_default zs (place - 1) (pos 0) d (omega (arith, within)))
    (subst (λ (x : ℤ). y <ℤ x) (get_or_default zs place (pos 0) d within) (above_not z y tested)))

pub returns : goal.returns
returns c = (
  λ is. adjacent_rise (λ (y z : ℤ). y <ℤ z) int_chain c.args.numbers.now (λ k d lt. let over = c.loop-place-test.false in c.loop-place.invariant k d (omega (arith, lt, over))),
  λ rise. refl,
)
