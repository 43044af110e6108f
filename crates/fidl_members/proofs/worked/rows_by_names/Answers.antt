use Rattle.std.proofs.Common.{◌≡◌, ℕ, List, zero, suc, refl, sym, ◌∙◌, arith}
use Rattle.std.specs.Prelude.{[], ◌∷◌}
use Rattle.fidl_members.specs.Entries.{row_name}
use Rattle.fidl_members.specs.Samples.{id_and_on}
use Rattle.fidl_members.proofs.worked.rows_by_names.Goals as goal

differ : (a b : ℕ) (xs ys : List ℕ) → (a ≡ b → ⊥) → a ∷ xs ≡ b ∷ ys → ⊥
differ a b xs ys other e = let same : a ≡ b = cc in other same

tail_of : (a b : ℕ) (xs ys : List ℕ) → a ∷ xs ≡ b ∷ ys → xs ≡ ys
tail_of a b xs ys e = cc

pub returns-clause-none : goal.returns-clause-none
returns-clause-none c zero less e = let own : row_name id_and_on 0 ≡ 105 ∷ 100 ∷ [] = refl in differ 105 111 (100 ∷ []) (102 ∷ []) (λ k. omega (arith, k)) (sym own ∙ e)
returns-clause-none c (suc zero) less e = let own : row_name id_and_on 1 ≡ 111 ∷ 110 ∷ [] = refl in differ 110 102 [] [] (λ k. omega (arith, k)) (tail_of 111 111 (110 ∷ []) (102 ∷ []) (sym own ∙ e))
returns-clause-none c (suc (suc at)) less e = absurd (omega (arith, less))
