-- Paths and their last steps.
use Rattle.std.proofs.Common.{◌≡◌, List, [], ◌∷◌, refl}
use Rattle.fidl_declarations.specs.declared.step.Step.{Step}
use Rattle.fidl_declarations.specs.Sites.{within}

-- only one path and one step make a path
pub one_before : (m k : List Step) (s t : Step) → within m s ≡ within k t → (m ≡ k) × (s ≡ t)
one_before [] [] s t e = let same : s ≡ t = cc in (refl, same)
one_before [] (x ∷ []) s t e = absurd (cc)
one_before [] (x ∷ y ∷ ys) s t e = absurd (cc)
one_before (x ∷ []) [] s t e = absurd (cc)
one_before (x ∷ y ∷ ys) [] s t e = absurd (cc)
one_before (x ∷ xs) (y ∷ ys) s t e =
    let first : x ≡ y = cc in
    let rest : within xs s ≡ within ys t = cc in
    let again = one_before xs ys s t rest in
    let same : xs ≡ ys = again.0 in
    let both : x ∷ xs ≡ y ∷ ys = cc in
    (both, again.1)
