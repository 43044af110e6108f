-- What the imports of a file make visible (docs/language.md, "Imports").
use Rattle.std.specs.Prelude.{ℕ, Bool, nat_eq, if◌then◌else◌, ◌≡◌, ◌⊎◌, List, [], ◌∷◌, map}
use Rattle.std.specs.Prelude.{flat_map, Option, Some, None}
use Rattle.std.specs.Cmp.Lexicographic.{pointwise}
use Rattle.fidl_span.specs.declared.words.Span.{Span}
use Rattle.fidl_tree.specs.Leaf.{text_at}
use Rattle.fidl_tree.specs.declared.path.Path.{Path}
use Rattle.fidl_tree.specs.declared.path.PathPart.{PathPart}
use Rattle.fidl_tree.specs.declared.file.File.{File}
use Rattle.fidl_tree.specs.declared.file.Import.{Import}
use Rattle.fidl_tree.specs.declared.file.ImportAlias.{ImportAlias}
use Rattle.fidl_named.specs.Names.{path_text, library_of, AreDistinct}

-- where the last component stands
abbrev pub last_span : Span → List PathPart → Span
last_span s [] = s
last_span s (p ∷ ps) = last_span p.name ps

-- where a path stands: from its first component to its last
abbrev pub path_span : Path → Span
path_span p = record { from = p.first.from; to = (last_span p.first p.rest.items).to }

-- two texts are the same
abbrev pub same : List ℕ → List ℕ → Bool
same = pointwise nat_eq

-- the alias of an import, where it isn't the library's own name, and where it stands
abbrev pub alias_names : List ℕ → List ℕ → Option ImportAlias → List (List ℕ × Span)
alias_names src library None = []
alias_names src library (Some a) =
    (if same (text_at src a.name) library then [] else (text_at src a.name, a.name) ∷ [])

-- the names under which an import makes its library visible, and where they stand: the library's
-- own, and the alias
abbrev pub import_names : List ℕ → Import → List (List ℕ × Span)
import_names src i =
    (path_text src i.path, path_span i.path) ∷ alias_names src (path_text src i.path) i.alias

-- each name of an import, with the library that it makes visible
abbrev pub visible_by : List ℕ → Import → List (List ℕ × List ℕ)
visible_by src i = map (λ n. (n.0, path_text src i.path)) (import_names src i)

-- the names under which a file sees libraries, each with its library: the own one, and the imported
-- ones
abbrev pub visible : File → List (List ℕ × List ℕ)
visible f = (library_of f, library_of f) ∷ flat_map (visible_by f.src.now) f.imports.items

-- it stands there with this value
abbrev pub IsEntry : {X : Type 0} → List (List ℕ × X) → List ℕ → X → Type 0
IsEntry [] name x = ⊥
IsEntry (e ∷ es) name x = ((e.0 ≡ name) × (e.1 ≡ x)) ⊎ IsEntry es name x

-- no import of a file repeats a name
abbrev pub ImportsAreApart : File → Type 0
ImportsAreApart f = AreDistinct (map (λ v. v.0) (visible f))
