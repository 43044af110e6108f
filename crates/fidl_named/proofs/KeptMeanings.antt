-- One kept name more, and one row more.
use Rattle.std.proofs.Common.{◌≡◌, ◌<◌, ℕ, zero, suc, List, [], ◌∷◌, ◌++◌, Some, length, inl, inr, ap, sym, subst, ◌∙◌, arith}
use Rattle.std.specs.Prelude.{slice_get}
use Rattle.std.proofs.lemmas.List.{length_push, get_or_push, get_or_append_left}
use Rattle.std.proofs.lemmas.Option.{get_or_from_slice_get, slice_get-get_or, slice_get_within, same_Some}
use Rattle.fidl_tree.specs.declared.file.File.{File}
use Rattle.fidl_named.specs.declared.kept_names.KeptName.{KeptName}
use Rattle.fidl_named.specs.KeptNames.{IsKept, AreKept, AreKeptIn}
use Rattle.fidl_cycles.proofs.Trails.{same_or_not}

pub kept_more : (files : List File) (f : File) (names : List KeptName) (k : KeptName) → AreKept files f names → IsKept files f k → AreKept files f (names ++ k ∷ [])
kept_more files f [] k h is = (is, tt)
kept_more files f (n ∷ ns) k h is = (h.0, kept_more files f ns k h.1 is)

pub kept_rows_more : (files : List File) (rows : List (List KeptName)) (row : List KeptName) (f : File) → AreKeptIn files rows → slice_get files (length rows) ≡ Some f → AreKept files f row → AreKeptIn files (rows ++ row ∷ [])
kept_rows_more files rows row f h at kept i g r there here = elim (same_or_not i (length rows)) as (λ _. AreKept files g r) [
  | inl same ↦
      let is : r ≡ row = sym (get_or_from_slice_get (rows ++ row ∷ []) i r row here) ∙ get_or_push rows row row i (sym same) in
      let file : f ≡ g = same_Some f g (sym at ∙ ap (slice_get files) (sym same) ∙ there) in
      subst (λ (x : File). AreKept files x r) file (subst (AreKept files f) (sym is) kept)
  | inr other ↦
      let within = slice_get_within (rows ++ row ∷ []) i r here in
      let more = length_push rows row in
      let less : i < length rows = omega (arith, within, more, other) in
      h i g r there (slice_get-get_or rows i r less ∙ ap Some (sym (get_or_append_left rows (row ∷ []) r i less) ∙ get_or_from_slice_get (rows ++ row ∷ []) i r r here))
]

-- a name that is kept means that
pub kept_at : (files : List File) (f : File) (names : List KeptName) (i : ℕ) (k : KeptName) → AreKept files f names → slice_get names i ≡ Some k → IsKept files f k
kept_at files f [] i k h at = absurd (cc)
kept_at files f (n ∷ ns) zero k h at = let is : n ≡ k = same_Some n k at in subst (IsKept files f) is h.0
kept_at files f (n ∷ ns) (suc i) k h at = kept_at files f ns i k h.1 at
