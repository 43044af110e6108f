-- The types that are written in files, and when they are within the limits (docs/language.md,
-- "Laying out"). Each is asked, also where only an alias, a constant or a service writes it.
use Rattle.std.specs.Prelude.{ℕ, ◌≡◌, List, Option, Some, None, slice_get}
use Rattle.std.specs.List.{AllByRecursion, Contains}
use Rattle.fidl_tree.specs.Syntax.{TypeUse}
use Rattle.fidl_tree.specs.Views.{file_view}
use Rattle.fidl_tree.specs.declared.file.File.{File}
use Rattle.fidl_declarations.specs.Sites.{Role, second_argument, Site, type_site, file_sites}
use Rattle.fidl_wire.specs.Term.{Term}
use Rattle.fidl_wire.specs.Figure.{Figure}
use Rattle.fidl_lower_types.specs.Terms.{TermIs}
use Rattle.fidl_type_shape.specs.Limits.{TypeFits}

-- what stands at a place of this role is a type. In checked files only an array has a second
-- argument, and that is its count
abbrev pub wanted_type : Role → TypeUse → Option TypeUse
wanted_type (second_argument head) t = None
wanted_type role t = Some t

-- the type that is written at a site
abbrev pub written_type : Site → Option TypeUse
written_type (type_site role t) = wanted_type role t
written_type site = None

-- a site is one of the file of this number
pub record StandsIn (files : List File) (number : ℕ) (site : Site) : Type 0 where
  pub f : File
  pub file_at : slice_get files number ≡ Some f
  pub among : Contains (file_sites (file_view f)) site

-- a type is written in the file of this number
pub record IsWritten (files : List File) (number : ℕ) (t : TypeUse) : Type 0 where
  pub site : Site
  pub at : StandsIn files number site
  pub is : written_type site ≡ Some t

-- all that stands in a type in the file of this number is within the limits
abbrev pub UseFits : List File → (figures : List Figure) → (number : ℕ) → TypeUse → Type 0
UseFits files figures number t =
    (term : Term) → TermIs files number t term → TypeFits figures term

-- so it is in the type that is written at a site, if one is
abbrev pub SiteFits : List File → (figures : List Figure) → (number : ℕ) → Site → Type 0
SiteFits files figures number site =
    (t : TypeUse) → written_type site ≡ Some t → UseFits files figures number t

-- in each type that is written in the file of this number
abbrev pub FileFits : List File → (figures : List Figure) → (number : ℕ) → File → Type 0
FileFits files figures number f =
    AllByRecursion (SiteFits files figures number) (file_sites (file_view f))

-- in each type that is written in the files
abbrev pub UsesFit : List File → (figures : List Figure) → Type 0
UsesFit files figures =
    (number : ℕ) (f : File) → slice_get files number ≡ Some f → FileFits files figures number f
