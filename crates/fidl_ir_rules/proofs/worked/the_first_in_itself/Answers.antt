use Rattle.std.proofs.Common.{◌≡◌, ◌≤◌, ℕ, zero, suc, List, [], ◌∷◌, refl, subst, arith}
use Rattle.std.specs.List.{Contains}
use Rattle.fidl_wire.specs.Term.{Term}
use Rattle.fidl_wire.specs.Term as ty
use Rattle.fidl_cycles.specs.Cycles.{Leads, step, further}
use Rattle.fidl_ir_rules.specs.Inline.{HoldsInlineFrom}
use Rattle.fidl_ir_rules.specs.Samples.{holding}
use Rattle.fidl_ir_rules.proofs.worked.the_first_in_itself.Goals as goal

pub returns-clause-alone : goal.returns-clause-alone
returns-clause-alone c = step 0 0 ((0, omega arith, refl), omega arith, omega arith)

pub returns-clause-first : goal.returns-clause-first
returns-clause-first c = further 0 1 0 ((0, omega arith, refl), omega arith, omega arith) (step 1 0 ((0, omega arith, refl), omega arith, omega arith))

pub returns-clause-behind_another : goal.returns-clause-behind_another
returns-clause-behind_another c = step 1 1 ((0, omega arith, refl), omega arith, omega arith)

-- two structs that hold each other
abbrev Both : List Term
Both = holding (ty.named 1) ∷ holding (ty.named 0) ∷ []

only_first : (j : ℕ) → Contains (0 ∷ []) j → 0 ≡ j
only_first j (zero, within, is) = is
only_first j (suc k, within, is) = absurd (omega (arith, within))

none_after : (j : ℕ) → HoldsInlineFrom Both 1 1 j → ⊥
none_after j (held, outer, inner) = let e = only_first j held in omega (arith, e, inner)

no_way : (i j : ℕ) → i ≡ 1 → Leads (HoldsInlineFrom Both 1) i j → ⊥
no_way i j is (step a b r) = none_after b (subst (λ (k : ℕ). HoldsInlineFrom Both 1 k b) is r)
no_way i j is (further a b d r h) = none_after b (subst (λ (k : ℕ). HoldsInlineFrom Both 1 k b) is r)

pub returns-clause-second : goal.returns-clause-second
returns-clause-second c h = no_way 1 1 refl h
