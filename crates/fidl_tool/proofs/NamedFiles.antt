-- Sources and files by their names and their bytes.
use Rattle.std.proofs.Common.{◌≡◌, ℕ, List, [], ◌∷◌, map, refl, sym, ap, subst, ◌∙◌}
use Rattle.std.specs.Prelude.{Option, IfSome}
use Rattle.std.specs.List.{AllZip}
use Rattle.fidl_commands.specs.declared.files.File.{File}
use Rattle.fidl_tool.specs.declared.sources.Source.{Source}
use Rattle.fidl_tool.specs.Compiling.{Named, named_of, texts_of}
use Rattle.fidl_tool.specs.Running.{IsRead, AreRead, IsKnown, stored_as}

pub bytes_named : (files : List File) → map (λ (file : File). file.bytes.now) files ≡ texts_of (named_of files)
bytes_named [] = refl
bytes_named (file ∷ files) = ap (λ texts. file.bytes.now ∷ texts) (bytes_named files)

-- a file that was read is the one that is known under its name
one_read : (known : List ℕ → Option (List ℕ)) (name : List ℕ) (read file : Named) → IsRead known name read → IsKnown known name file → read ≡ file
one_read known name (n, b) (m, d) r k =
    let bytes : b ≡ d = subst (λ o. IfSome o (λ bs. b ≡ bs)) k.1 r.1 in
    let names : n ≡ m = r.0 ∙ sym k.0 in
    rw (names, bytes) refl

pub all_read : (known : List ℕ → Option (List ℕ)) (names : List (List ℕ)) (read files : List Named) → AreRead known names read → AllZip (IsKnown known) names files → read ≡ files
all_read known [] [] [] r k = refl
all_read known [] [] (f ∷ fs) r k = absurd k
all_read known [] (x ∷ xs) fs r k = absurd r
all_read known (n ∷ ns) [] fs r k = absurd r
all_read known (n ∷ ns) (x ∷ xs) [] r k = absurd k
all_read known (n ∷ ns) (x ∷ xs) (f ∷ fs) r k =
    let head : x ≡ f = one_read known n x f r.0 k.0 in
    let tail : xs ≡ fs = all_read known ns xs fs r.1 k.1 in
    rw (head, tail) refl

-- the files that were made of the sources read are those that are known
pub files_read : (known : List ℕ → Option (List ℕ)) (names : List (List ℕ)) (sources : List Source) (made : List File) (files : List Named)
    → AreRead known names (map stored_as sources) → named_of made ≡ map stored_as sources → AllZip (IsKnown known) names files → named_of made ≡ files
files_read known names sources made files r e k = e ∙ all_read known names (map stored_as sources) files r k
