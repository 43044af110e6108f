-- Where written types stand, as the code holds them.
use Rattle.std.specs.Prelude.{ℕ, ◌≡◌, List, Some, slice_get}
use Rattle.std.specs.List.{Contains}
use Rattle.fidl_tree.specs.Views.{file_view}
use Rattle.fidl_tree.specs.declared.file.File.{File}
use Rattle.fidl_constraints.specs.BehindViews.{use_view}
use Rattle.fidl_declarations.specs.Sites.{Site, type_site, file_sites}
use Rattle.fidl_declarations.specs.SiteViews.{role_view}
use Rattle.fidl_type_rules.specs.declared.used.Used.{Used}
use Rattle.fidl_constraints.specs.Behind.{Core}
use Rattle.fidl_constraints.specs.declared.parts.Part.{Part}
use Rattle.fidl_type_rules.specs.Places.{WantsType}
use Rattle.fidl_type_rules.specs.Uses.{IsProper}

-- a site is one of the file of this number
pub record StandsIn (files : List File) (number : ℕ) (site : Site) : Type 0 where
  pub f : File
  pub file_at : slice_get files number ≡ Some f
  pub among : Contains (file_sites (file_view f)) site

-- a written type stands in its file with its role, and a type is wanted there
pub record Stands (files : List File) (used : Used) : Type 0 where
  pub at : StandsIn files used.file_index (type_site (role_view used.role) (use_view used.of))
  pub wanted : WantsType files used.file_index (role_view used.role)

-- it is not proper there
abbrev pub IsImproperThere : List File → Used → Type 0
IsImproperThere files used = (core : Core) (parts : List Part)
    → IsProper files used.file_index (role_view used.role) (use_view used.of) core parts → ⊥
