use Rattle.std.proofs.Common.{◌≡◌, ◌<◌, ◌^◌, ℕ}
use Rattle.fidl_member_rules.proofs.numbers.is_power_of_two.Given as goal

-- the power is 2 to the exponent, and the number is none before it
abbrev pub invariant-loop-exponent : goal.invariant-loop-exponent
invariant-loop-exponent l = record {
  is : l.power ≡ 2 ^ l._exponent;
  none : (k : ℕ) → k < l._exponent → l.wanted ≡ 2 ^ k → ⊥;
}
