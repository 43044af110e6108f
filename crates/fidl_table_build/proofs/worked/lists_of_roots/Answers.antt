use Rattle.std.proofs.Common.{◌≡◌, ℕ, zero, suc, [], ◌∷◌, Some, slice_get, get_or, codes, refl, ap, subst, arith}
use Rattle.std.proofs.lemmas.Option.{none-some, same_Some}
use Rattle.fidl_wire.specs.Term as ty
use Rattle.fidl_table_build.specs.Roots.{ShowsRoot}
use Rattle.fidl_table_build.specs.Samples.{two_roots}
use Rattle.fidl_table_build.proofs.worked.lists_of_roots.Goals as goal

abbrev Shown : (definition root : ℕ) → Type 0
Shown = ShowsRoot (codes "b" ∷ codes "c" ∷ codes "a" ∷ []) (ty.bool ∷ ty.named 2 ∷ ty.named 0 ∷ []) (two_roots 2)

each : (k definition : ℕ) → slice_get (2 ∷ 0 ∷ []) k ≡ Some definition → Shown definition k
each zero d at = subst (λ d. Shown d 0) (same_Some 2 d at) (record { name = refl; entry = refl })
each (suc zero) d at = subst (λ d. Shown d 1) (same_Some 0 d at) (record { name = refl; entry = refl })
each (suc (suc k)) d at = absurd (none-some d at)

pub returns-clause-both : goal.returns-clause-both
returns-clause-both c = record { count = refl; each = each }

pub returns-clause-turned : goal.returns-clause-turned
returns-clause-turned c = λ h.
    let never : 98 ≡ 97 = ap (λ l. get_or l 0 0) (same_Some (98 ∷ []) (97 ∷ []) (h.each 0 0 refl).name) in
    absurd (omega (arith, never))
