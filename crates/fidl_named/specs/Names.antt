-- What source files declare, by name (docs/language.md, "Names").
use Rattle.std.specs.Prelude.{ℕ, suc, ◌≡◌, ◌⊎◌, List, [], ◌∷◌, ◌++◌, map, flat_map, codes}
use Rattle.std.specs.List.{enumerate_from}
use Rattle.fidl_span.specs.declared.words.Span.{Span}
use Rattle.fidl_tree.specs.Leaf.{text_at}
use Rattle.fidl_tree.specs.declared.path.Path.{Path}
use Rattle.fidl_tree.specs.declared.path.PathPart.{PathPart}
use Rattle.fidl_tree.specs.declared.file.File.{File}
use Rattle.fidl_tree.specs.declared.declaration.Declaration.{Declaration}
use Rattle.fidl_tree.specs.declared.declaration.DeclarationBody.{DeclarationBody}
use Rattle.fidl_tree.specs.declared.declaration.DeclarationBody.TheVariants.{Const, Alias}
use Rattle.fidl_tree.specs.declared.declaration.DeclarationBody.TheVariants.{«Type» as Layout}
use Rattle.fidl_tree.specs.declared.declaration.DeclarationBody.TheVariants.{Protocol, Service}
use Rattle.fidl_tree.specs.declared.declaration.DeclarationBody.TheVariants.{Resource}
use Rattle.fidl_named.specs.declared.place.Place.{Place}
use Rattle.fidl_named.specs.declared.place.DeclarationId.{DeclarationId}

-- a dot and the name after it
abbrev pub part_text : List ℕ → PathPart → List ℕ
part_text src part = codes "." ++ text_at src part.name

-- the components of a path, with dots between
abbrev pub path_text : List ℕ → Path → List ℕ
path_text src p = text_at src p.first ++ flat_map (part_text src) p.rest.items

-- the name of the library that a file belongs to
abbrev pub library_of : File → List ℕ
library_of f = path_text f.src.now f.library.path

-- where a declaration's name stands
abbrev pub name_span : DeclarationBody → Span
name_span (Const d) = d.name
name_span (Alias d) = d.name
name_span (Layout d) = d.name
name_span (Protocol d) = d.name
name_span (Service d) = d.name
name_span (Resource d) = d.name

-- a declaration's full name: the library's, a slash, and its own
abbrev pub full_name : File → Declaration → List ℕ
full_name f d = library_of f ++ codes "/" ++ text_at f.src.now (name_span d.body)

-- the full names that a file declares, in order
abbrev pub declared : File → List (List ℕ)
declared f = map (full_name f) f.declarations.items

-- those that files declare, file by file
abbrev pub all_declared : List File → List (List ℕ)
all_declared fs = flat_map declared fs

-- it is one of these
abbrev pub IsOneOf : List (List ℕ) → List ℕ → Type 0
IsOneOf [] x = ⊥
IsOneOf (y ∷ ys) x = (y ≡ x) ⊎ IsOneOf ys x

-- no two are the same
abbrev pub AreDistinct : List (List ℕ) → Type 0
AreDistinct [] = Unit {0}
AreDistinct (x ∷ xs) = (IsOneOf xs x → ⊥) × AreDistinct xs

-- the place of a declaration's name, in the file of this number
abbrev pub place_in : (number : ℕ) → Declaration → Place
place_in number d = record { file = number; span = name_span d.body }

-- a file's declarations, with their full names and ids, in order
abbrev pub entries_of : File → (number : ℕ) → List (List ℕ × DeclarationId)
entries_of f number =
    map (λ (p : ℕ × Declaration). (full_name f p.1, record { file = number; index = p.0 }))
    (enumerate_from 0 f.declarations.items)

-- those of files, of which the first has this number
abbrev pub all_entries : List File → (number : ℕ) → List (List ℕ × DeclarationId)
all_entries [] number = []
all_entries (f ∷ fs) number = entries_of f number ++ all_entries fs (suc number)
