-- Names that have the path of a name, one after another.
use Rattle.std.proofs.Common.{◌≡◌, ℕ, ◌+◌, ◌<◌, List, [], length, get_or, take, drop, take-append-drop, sym, ap, subst, ◌∙◌, true, false}
use Rattle.std.specs.Prelude.{Bool, ◌||◌}
use Rattle.std.specs.List.{list_any}
use Rattle.std.specs.Ordering.{is_eq}
use Rattle.std.specs.Path.{path_cmp, path_join, cur_dir}
use Rattle.std.proofs.lemmas.List.Folds.{list_any_more, list_any-append}
use Rattle.fidl_command_line.specs.Arguments.{is_one_path}

module _ (name : List ℕ) (names : List (List ℕ)) (i : ℕ) (lt : i < length names) (before : list_any (is_one_path name) (take i names) ≡ false) where
  -- one name more, where none before has the path
  pub one_more : (here there other : List ℕ) (b : Bool) → get_or names i [] ≡ other → here ≡ path_join cur_dir name → there ≡ path_join cur_dir other → b ≡ is_eq (path_cmp here there)
      → list_any (is_one_path name) (take (i + 1) names) ≡ b
  one_more here there other b at h t e =
      let same : b ≡ is_one_path name other = e ∙ ap (λ x. is_eq (path_cmp x there)) h ∙ ap (λ x. is_eq (path_cmp (path_join cur_dir name) x)) t in
      list_any_more (is_one_path name) names i [] lt ∙ ap (λ x. x || is_one_path name (get_or names i [])) before ∙ ap (is_one_path name) at ∙ sym same

-- one of the first names has it, so one of all
pub one_of_all : (test : List ℕ → Bool) (names : List (List ℕ)) (n : ℕ) → list_any test (take n names) ≡ true → list_any test names ≡ true
one_of_all test names n e =
    subst (λ (xs : List (List ℕ)). list_any test xs ≡ true) (take-append-drop n names) (list_any-append test (take n names) (drop n names) ∙ ap (λ x. x || list_any test (drop n names)) e)
