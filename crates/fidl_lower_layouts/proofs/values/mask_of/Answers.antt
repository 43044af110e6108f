use Rattle.std.proofs.Common.{rules, ◌≡◌, ◌+◌, ℤ, false, true, get_or, take, sym, subst}
use Rattle.std.specs.Prelude.{pos, bit_or}
use Rattle.std.proofs.lemmas.Int.{to_z-of_z}
use Rattle.std.proofs.lemmas.List.{get_or_default}
use lib.IntN.{nat_abs}
use lib.Signed.{lt_z}
use mir.Val.{SFits, of_z, to_z}
use mir.Syntax.{w128}
use Rattle.fidl_lower_layouts.specs.Values.{IsMaskOf}
use Rattle.fidl_lower_layouts.proofs.Masks.{word_there, not_negative, not_high, mask_more}
use Rattle.fidl_lower_layouts.proofs.values.mask_of.Goals as goal
use Rattle.fidl_lower_layouts.proofs.values.mask_of.Goals.{then-number-lt0-via-then-number-lt0, then-number-lt0-via-else-number-lt0+then-number-gt18446744073709551615}

pub returns-then-number-lt0-clause-none : goal.returns-then-number-lt0-clause-none
returns-then-number-lt0-clause-none c = λ _ mask h.
    let zs = c.args.numbers.now in
    let i = c.loop-number.number-index in
    let z = get_or zs i (pos 0) in
    let f : SFits w128 z = search rules in
    let same : to_z w128 (of_z w128 z) ≡ z = to_z-of_z w128 z f in
    let word = word_there zs i z c.loop-number-test.true (get_or_default zs i (pos 0) z c.loop-number-test.true) mask h in
    elim c.then-number-lt0.branch [
      | then-number-lt0-via-then-number-lt0 w ↦ not_negative z word (subst (λ (y : ℤ). lt_z y (pos 0) ≡ true) same w.if-number-lt0.true)
      | then-number-lt0-via-else-number-lt0+then-number-gt18446744073709551615 w ↦ not_high z word (subst (λ (y : ℤ). lt_z (pos 18446744073709551615) y ≡ true) same w.if-number-gt18446744073709551615.true)
    ]

pub loop-number-preserved : goal.loop-number-preserved
loop-number-preserved c =
    let zs = c.args.numbers.now in
    let i = c.loop-number.number-index in
    let z = get_or zs i (pos 0) in
    let f : SFits w128 z = search rules in
    let same : to_z w128 (of_z w128 z) ≡ z = to_z-of_z w128 z f in
    let more = mask_more zs i z c.loop-number-test.true (get_or_default zs i (pos 0) z c.loop-number-test.true) c.loop-number.mask c.loop-number.invariant
    (subst (λ (y : ℤ). lt_z y (pos 0) ≡ false) same c.if-number-lt0.false) (subst (λ (y : ℤ). lt_z (pos 18446744073709551615) y ≡ false) same c.if-number-gt18446744073709551615.false) in
    subst (λ (y : ℤ). IsMaskOf (take (i + 1) zs) (bit_or c.loop-number.mask (nat_abs y))) (sym same) more
