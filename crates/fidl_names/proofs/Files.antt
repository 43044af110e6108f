-- The full names of one file more.
use Rattle.std.proofs.Common.{◌≡◌, ℕ, suc, ◌+◌, List, [], ◌∷◌, ◌++◌, length, ap, sym, ◌∙◌, arith, zero-add, refl}
use Rattle.std.proofs.lemmas.List.{append_assoc, append-nil, map-append}
use Rattle.fidl_tree.specs.declared.file.File.{File}
use Rattle.fidl_named.specs.Names.{declared, all_declared, entries_of, all_entries}
use Rattle.fidl_named.specs.NameMaps.{names_of}
use Rattle.fidl_names.proofs.Adding.{names_of-entries}

pub entries_after : (fs : List File) (f : File) (n : ℕ) → all_entries (fs ++ f ∷ []) n ≡ all_entries fs n ++ entries_of f (length fs + n)
entries_after [] f n = append-nil (entries_of f n) ∙ ap (entries_of f) (sym (zero-add n))
entries_after (g ∷ fs) f n =
    let count : length fs + suc n ≡ length (g ∷ fs) + n = omega arith in
    ap (λ l. entries_of g n ++ l) (entries_after fs f (suc n) ∙ ap (λ k. all_entries fs (suc n) ++ entries_of f k) count)
    ∙ sym (append_assoc (entries_of g n) (all_entries fs (suc n)) (entries_of f (length (g ∷ fs) + n)))

pub names_of-all : (fs : List File) (n : ℕ) → names_of (all_entries fs n) ≡ all_declared fs
names_of-all [] n = refl
names_of-all (f ∷ fs) n =
    map-append _ (entries_of f n) (all_entries fs (suc n))
    ∙ ap (λ l. l ++ names_of (all_entries fs (suc n))) (names_of-entries f n)
    ∙ ap (λ l. declared f ++ l) (names_of-all fs (suc n))
