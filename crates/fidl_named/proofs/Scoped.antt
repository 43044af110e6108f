-- Files by their numbers.
use Rattle.std.proofs.Common.{◌≡◌, ℕ, List, Some, sym, subst, ◌∙◌}
use Rattle.std.specs.Prelude.{slice_get}
use Rattle.fidl_tree.specs.declared.file.File.{File}
use Rattle.fidl_named.specs.Scopes.{OfFile}

-- what holds of a file that stands there holds of the file of that number
pub of_file : (files scoped : List File) (number n : ℕ) (g : File) (P : List File → ℕ → File → Type 0) → scoped ≡ files → number ≡ n → slice_get scoped number ≡ Some g → P scoped number g → OfFile files n (P files n)
of_file files scoped number n g P same is at h f there =
    let it : Some g ≡ Some f = sym (subst (λ k. slice_get files k ≡ Some g) is (subst (λ fs. slice_get fs number ≡ Some g) same at)) ∙ there in
    let one : g ≡ f = cc in
    subst (P files n) one (subst (λ k. P files k g) is (subst (λ fs. P fs number g) same h))
