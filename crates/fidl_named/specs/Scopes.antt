-- What is known of the names of a set whose rules were checked: the code's view of a set of files.
use Rattle.std.specs.Prelude.{ℕ, ◌≡◌, ◌⊎◌, List, Some, map, slice_get}
use Rattle.std.specs.List.{AllByRecursion}
use Rattle.fidl_tree.specs.declared.file.File.{File}
use Rattle.fidl_named.specs.declared.ends.AliasEnd.{AliasEnd}
use Rattle.fidl_named.specs.declared.kept_names.KeptName.{KeptName}
use Rattle.fidl_named.specs.declared.fault.NameFault.{NameFault}
use Rattle.fidl_named.specs.declared.fault.NameFault.TheVariants.{Memory}
use Rattle.fidl_named.specs.Imports.{visible, ImportsAreApart}
use Rattle.fidl_named.specs.Meanings.{MembersDiffer}
use Rattle.fidl_named.specs.Aliases.{AreEnds}
use Rattle.fidl_named.specs.KeptNames.{AreKeptIn}

-- what each file sees, the ends of each declaration, and the meanings that are kept, in files whose
-- imports and members differ
pub record IsKnown (files : List File) (visible_names : List (List (List ℕ × List ℕ)))
    (rows : List (List AliasEnd)) (kept : List (List KeptName)) : Type 0 where
  pub sees : visible_names ≡ map visible files
  pub apart : AllByRecursion ImportsAreApart files
  pub members : MembersDiffer files
  pub ends : AreEnds files rows
  pub kept_are : AreKeptIn files kept

-- the refusal where memory ran out, or one that says this
abbrev pub IsMemoryOr : (NameFault → Type 0) → NameFault → Type 0
IsMemoryOr Says fault = (fault ≡ Memory) ⊎ Says fault

-- it is true of the file of this number, if there is one
abbrev pub OfFile : List File → (file_index : ℕ) → (File → Type 0) → Type 0
OfFile files file_index P = (f : File) → slice_get files file_index ≡ Some f → P f
