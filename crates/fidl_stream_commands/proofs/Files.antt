-- What holds of the bytes that were read of two files.
use Rattle.std.proofs.Common.{◌≡◌, ℕ, List, subst, ◌∙◌}
use Rattle.std.specs.Prelude.{Option, Some, None, IfSome}

pub of_files : (a b : Option (List ℕ)) (table items text held : List ℕ) (P : List ℕ → List ℕ → Type 0) → table ≡ items → text ≡ held → IfSome a (λ x. items ≡ x) → IfSome b (λ x. held ≡ x) → P table text
    → IfSome a (λ x. IfSome b (λ y. P x y))
of_files None b table items text held P e f i j h = tt
of_files (Some x) None table items text held P e f i j h = tt
of_files (Some x) (Some y) table items text held P e f i j h = subst (λ (l : List ℕ). P l y) (e ∙ i) (subst (λ (l : List ℕ). P table l) (f ∙ j) h)
