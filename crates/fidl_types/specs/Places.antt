-- Where a form is reported (docs/language.md, "Checking types").
use Rattle.std.specs.Prelude.{ℕ, ◌≡◌, List, Option, Some, None, slice_get, unwrap_or}
use Rattle.std.specs.List.{filter_map, last_or}
use Rattle.fidl_span.specs.declared.words.Span.{Span}
use Rattle.fidl_named.specs.declared.place.Place.{Place}
use Rattle.fidl_declarations.specs.declared.step.Step.{Step}
use Rattle.fidl_declarations.specs.declared.step.Step.TheVariants as step
use Rattle.fidl_declarations.specs.Forms.{Form}

-- the name that a step is
abbrev pub step_name : Step → Option Span
step_name (step.Name s) = Some s
step_name step.Request = None
step_name step.Response = None
step_name step.Error = None
step_name step.Result = None

-- the last name in a path
abbrev pub last_name : (path : List Step) → Option Span
last_name path = last_or None (filter_map step_name path)

-- where it stands: the name of a declaration, or that of the member, the method or the alias by
-- which a layout without a name of its own is named. Each path has one
abbrev pub name_place : (path : List Step) → Span
name_place path = unwrap_or (last_name path) (record { from = 0; to = 0 })

-- the place of a form
abbrev pub form_place : Form → Place
form_place form = record { file = form.file; span = name_place form.path }

-- the place of the form of this number
pub record IsPlaceOf (forms : List Form) (i : ℕ) (place : Place) : Type 0 where
  pub form : Form
  pub at : slice_get forms i ≡ Some form
  pub is : place ≡ form_place form
