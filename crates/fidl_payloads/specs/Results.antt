-- The numbers of the unions in which methods answer (docs/language.md, "Payloads").
use Rattle.std.specs.Prelude.{ℕ, ◌≡◌, List}
use Rattle.std.specs.List.{Contains}
use Rattle.fidl_tree.specs.declared.file.File.{File}
use Rattle.fidl_declarations.specs.declared.step.Step.{Step}
use Rattle.fidl_declarations.specs.Forms.{Form, FormKind, layout_form, result_form, empty_response_form}
use Rattle.fidl_lower_types.specs.Numbers.{all_forms, IsFirst}

-- a form is a union in which a method answers
abbrev pub IsResultKind : FormKind → Type 0
IsResultKind (layout_form optional l) = ⊥
IsResultKind (result_form strict r) = Unit {0}
IsResultKind empty_response_form = ⊥

-- it is the one at this path of the file of this number
pub record IsResultForm (number : ℕ) (path : List Step) (form : Form) : Type 0 where
  pub kind_is : IsResultKind form.kind
  pub file_is : form.file ≡ number
  pub path_is : form.path ≡ path

-- it is the first such form of a list, and its place there is a number of 32 bits
abbrev pub IsFirstResult : List Form → (number : ℕ) → (path : List Step) → (i : ℕ) → Type 0
IsFirstResult forms number path i = IsFirst forms (IsResultForm number path) i

-- the number of the result at this path of the file of this number
abbrev pub IsResultNumber : List File → (number : ℕ) → (path : List Step) → (i : ℕ) → Type 0
IsResultNumber files number path i = IsFirstResult (all_forms files) number path i

-- there is a result at this path
pub record ResultStands (files : List File) (number : ℕ) (path : List Step) : Type 0 where
  pub form : Form
  pub among : Contains (all_forms files) form
  pub is : IsResultForm number path form
