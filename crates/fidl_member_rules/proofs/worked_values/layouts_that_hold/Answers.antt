use Rattle.std.proofs.Common.{◌∷◌, [], refl, arith}
use Rattle.std.specs.Prelude.{pos}
use Rattle.fidl_member_rules.proofs.worked_values.layouts_that_hold.Goals as goal

pub returns-clause-bits : goal.returns-clause-bits
returns-clause-bits c = λ files f k u m n are holds.
    (holds (pos 4 ∷ pos 4 ∷ []) are).differ 0 1 (pos 4) (omega arith) (omega arith) refl

pub returns-clause-broken : goal.returns-clause-broken
returns-clause-broken c = λ files f k u m n are. record {
  numbers = pos 4 ∷ pos 4 ∷ [];
  are = are;
  breaks = record { rank = 1; member = n; at = refl; name_is = refl; number = pos 4; number_at = refl; breaks = (0, omega arith, refl) };
}
