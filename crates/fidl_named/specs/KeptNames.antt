-- The meanings of names that are kept, by the places of the names.
use Rattle.std.specs.Prelude.{ℕ, ◌≡◌, List, Some, map, slice_get}
use Rattle.std.specs.List.{AllByRecursion}
use Rattle.fidl_tree.specs.declared.file.File.{File}
use Rattle.fidl_named.specs.declared.kept_names.KeptName.{KeptName}
use Rattle.fidl_named.specs.declared.kept_names.KeptNames.{KeptNames}
use Rattle.fidl_named.specs.Meanings.{components, Means}

-- a name means in a file what is kept of it
abbrev pub IsKept : List File → File → KeptName → Type 0
IsKept files f k = Means files f k.wanted (components f.src.now k.path.now) k.meaning

-- so does each
abbrev pub AreKept : List File → File → List KeptName → Type 0
AreKept files f names = AllByRecursion (IsKept files f) names

-- rows of kept names, one for each file, as vectors hold them
abbrev pub kept_rows : List KeptNames → List (List KeptName)
kept_rows rows = map (λ r. r.names.items) rows

-- the names of each row mean in their file what is kept
abbrev pub AreKeptIn : List File → List (List KeptName) → Type 0
AreKeptIn files rows =
    (i : ℕ) (f : File) (row : List KeptName) → slice_get files i ≡ Some f
    → slice_get rows i ≡ Some row → AreKept files f row
