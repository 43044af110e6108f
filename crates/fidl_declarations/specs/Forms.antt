-- What has a number: the layouts and results of files in the order of the sources, and their names
-- (docs/language.md, "Names by path"). A union has two: as it is, and where it may be absent.
use Rattle.std.specs.Prelude.{ℕ, suc, Bool, true, false, List, [], ◌∷◌, ◌++◌, map, flat_map, codes}
use Rattle.fidl_tree.specs.Leaf.{text_at}
use Rattle.fidl_tree.specs.Syntax.{Response, File}
use Rattle.fidl_tree.specs.Syntax.{Layout, values_layout, struct_layout, table_layout, union_layout}
use Rattle.fidl_declarations.specs.declared.step.Step.{Step}
use Rattle.fidl_declarations.specs.declared.step.Step.TheVariants as step
use Rattle.fidl_declarations.specs.Sites.{Site, type_site, layout_site, result_site}
use Rattle.fidl_declarations.specs.Sites.{empty_response_site, attributes_site, file_sites}

-- what is numbered: a layout, as a union also where it may be absent; the union in which a method
-- answers; the empty struct in it
pub data FormKind : Type 0 where
  layout_form : (optional : Bool) → Layout → FormKind
  result_form : (strict : Bool) → Response → FormKind
  empty_response_form : FormKind

-- it stands in the file of this number at this path, and has this full name
pub record Form : Type 0 where
  pub file : ℕ
  pub path : List Step
  pub name : List ℕ
  pub kind : FormKind

-- Names by path.

abbrev pub step_text : List ℕ → Step → List ℕ
step_text src (step.Name s) = text_at src s
step_text src step.Request = codes "request"
step_text src step.Response = codes "response"
step_text src step.Error = codes "error"
step_text src step.Result = codes "result"

-- a dot and the text of a step
abbrev pub dotted_step : List ℕ → Step → List ℕ
dotted_step src s = codes "." ++ step_text src s

-- the steps of a path, with dots between
abbrev pub steps_text : List ℕ → List Step → List ℕ
steps_text src [] = []
steps_text src (s ∷ path) = step_text src s ++ flat_map (dotted_step src) path

-- the path of the library that a file belongs to, as steps
abbrev pub library_steps : File → List Step
library_steps f = map step.Name f.library

-- the full name of what stands at a path of a file: the library's name, a slash, and the path
abbrev pub name_by_path : File → List Step → List ℕ
name_by_path f path =
    steps_text f.source (library_steps f) ++ codes "/" ++ steps_text f.source path

-- Forms.

abbrev pub layout_kinds : Layout → List FormKind
layout_kinds (values_layout kind strict keyword u members) =
    layout_form false (values_layout kind strict keyword u members) ∷ []
layout_kinds (struct_layout is_resource keyword ms) =
    layout_form false (struct_layout is_resource keyword ms) ∷ []
layout_kinds (table_layout is_resource keyword ms) =
    layout_form false (table_layout is_resource keyword ms) ∷ []
layout_kinds (union_layout strict is_resource keyword ms) =
    layout_form false (union_layout strict is_resource keyword ms)
    ∷ layout_form true (union_layout strict is_resource keyword ms) ∷ []

-- what stands at this path of the file of this number
abbrev pub form_at : (number : ℕ) → File → List Step → FormKind → Form
form_at number f path kind =
    record { file = number; path = path; name = name_by_path f path; kind = kind }

-- the forms that a site makes
abbrev pub site_forms : (number : ℕ) → File → Site → List Form
site_forms number f (layout_site path l) = map (form_at number f path) (layout_kinds l)
site_forms number f (result_site path strict r) = form_at number f path (result_form strict r) ∷ []
site_forms number f (empty_response_site path) = form_at number f path empty_response_form ∷ []
site_forms number f (type_site role t) = []
site_forms number f (attributes_site attributes) = []

-- those of the file of this number
abbrev pub file_forms : (number : ℕ) → File → List Form
file_forms number f = flat_map (site_forms number f) (file_sites f)

-- those of files, of which the first has this number
abbrev pub forms_from : (number : ℕ) → List File → List Form
forms_from number [] = []
forms_from number (f ∷ files) = file_forms number f ++ forms_from (suc number) files
