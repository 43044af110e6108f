use Rattle.std.proofs.Common.{◌≡◌, ℕ, zero, suc, List, [], ◌∷◌, refl, arith}
use Rattle.std.specs.List.{Contains}
use Rattle.fidl_wire.specs.Term.{Term}
use Rattle.fidl_wire.specs.Term as ty
use Rattle.fidl_cycles.specs.Cycles.{Leads, step, further}
use Rattle.fidl_ir_rules.specs.Inline.{HoldsInline}
use Rattle.fidl_ir_rules.specs.Samples.{holding}
use Rattle.fidl_ir_rules.proofs.worked.structs_in_themselves.Goals as goal

pub returns-clause-at_once : goal.returns-clause-at_once
returns-clause-at_once c = step 0 0 (0, omega arith, refl)

pub returns-clause-over_another : goal.returns-clause-over_another
returns-clause-over_another c = further 0 1 0 (0, omega arith, refl) (step 1 0 (0, omega arith, refl))

pub returns-clause-through_an_array : goal.returns-clause-through_an_array
returns-clause-through_an_array c = step 0 0 (0, omega arith, refl)

-- two structs that hold the second: all ways lead to it
abbrev Both : List Term
Both = holding (ty.named 1) ∷ holding (ty.named 1) ∷ []

only_one : (j : ℕ) → Contains (1 ∷ []) j → 1 ≡ j
only_one j (zero, within, is) = is
only_one j (suc k, within, is) = absurd (omega (arith, within))

to_second : (i j : ℕ) → HoldsInline Both i j → 1 ≡ j
to_second zero j h = only_one j h
to_second (suc zero) j h = only_one j h
to_second (suc (suc i)) j h = absurd (omega (arith, h.1))

lead_to_second : (i j : ℕ) → Leads (HoldsInline Both) i j → 1 ≡ j
lead_to_second i j (step a b r) = to_second a b r
lead_to_second i j (further a b d r h) = lead_to_second b d h

pub returns-clause-of_another : goal.returns-clause-of_another
returns-clause-of_another c h = let e : 1 ≡ 0 = lead_to_second 0 0 h in omega (arith, e)
