use Rattle.std.proofs.Common.{◌∙◌, sym, refl, true≢false, arith}
use Rattle.fidl_member_rules.proofs.Powers.{twice, low_power, none_more, its_power, no_power, negative_none}
use Rattle.fidl_member_rules.proofs.numbers.is_power_of_two.Goals as goal

pub returns-then-number-lt0 : goal.returns-then-number-lt0
returns-then-number-lt0 c = ((λ f. absurd (true≢false (sym f))), (λ h. absurd (negative_none c.args.number c.ranges.number c.if-number-lt0.true h)))

pub returns-then-power-wanted : goal.returns-then-power-wanted
returns-then-power-wanted c = ((λ _. its_power c.args.number c.ranges.number c.if-number-lt0.false c.loop-exponent._exponent (sym c.if-power-wanted.true ∙ c.loop-exponent.invariant.is)), (λ _. refl))

pub overflow_mul-power : goal.overflow_mul-power
overflow_mul-power c = record { fits = low_power c.loop-exponent._exponent c.loop-exponent.power c.loop-exponent.invariant.is c.loop-exponent-test.true }

pub loop-exponent-preserved : goal.loop-exponent-preserved
loop-exponent-preserved c = record {
  is = twice c.loop-exponent._exponent c.loop-exponent.power c.loop-exponent.invariant.is;
  none = none_more _ c.loop-exponent.power c.loop-exponent._exponent c.loop-exponent.invariant.is c.if-power-wanted.false c.loop-exponent.invariant.none;
}

pub returns : goal.returns
returns c = ((λ f. absurd (true≢false (sym f))), (λ h. absurd (no_power c.args.number c.ranges.number c.if-number-lt0.false (λ k lt. c.loop-exponent.invariant.none k (omega (arith, lt, c.loop-exponent-test.false))) h)))
