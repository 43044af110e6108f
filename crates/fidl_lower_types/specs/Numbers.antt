-- The numbers of forms: their places among the forms of all files (docs/language.md, "Forms"). A
-- layout is known by where its keyword stands, a result and an empty response by where the names of
-- their protocol and method stand.
use Rattle.std.specs.Prelude.{ℕ, ◌≡◌, ◌<◌, ◌^◌, ◌∷◌, Bool, true, false, List, [], Some, map}
use Rattle.std.specs.Prelude.{slice_get}
use Rattle.fidl_span.specs.declared.words.Span.{Span}
use Rattle.fidl_tree.specs.Syntax.{Layout}
use Rattle.fidl_tree.specs.Views.{file_view}
use Rattle.fidl_tree.specs.declared.file.File.{File}
use Rattle.fidl_declarations.specs.Keywords.{layout_keyword}
use Rattle.fidl_declarations.specs.declared.step.Step.{Step}
use Rattle.fidl_declarations.specs.declared.step.Step.TheVariants as step
use Rattle.fidl_declarations.specs.Forms.{Form, FormKind, layout_form, result_form}
use Rattle.fidl_declarations.specs.Forms.{empty_response_form, forms_from}

-- the forms of all files
abbrev pub all_forms : List File → List Form
all_forms files = forms_from 0 (map file_view files)

-- a form is that of the layout whose keyword stands there in the file of this number: as it is, or
-- where it may be absent
pub record IsFormAt (number : ℕ) (optional : Bool) (keyword : Span) (form : Form) : Type 0 where
  pub layout : Layout
  pub file_is : form.file ≡ number
  pub kind_is : form.kind ≡ layout_form optional layout
  pub keyword_is : layout_keyword layout ≡ keyword

-- the form at this place is the first of a list that is so, and the place is a number of 32 bits
pub record IsFirst (forms : List Form) (Is : Form → Type 0) (i : ℕ) : Type 0 where
  pub form : Form
  pub at : slice_get forms i ≡ Some form
  pub is : Is form
  pub first : (k : ℕ) (other : Form) → k < i → slice_get forms k ≡ Some other → Is other → ⊥
  pub low : i < 2 ^ 32

-- it is the first form of a layout
abbrev pub IsFirstForm : List Form → (number : ℕ) → (optional : Bool) → (keyword : Span) → (i : ℕ)
    → Type 0
IsFirstForm forms number optional keyword i = IsFirst forms (IsFormAt number optional keyword) i

-- the number of a layout in the file of this number
abbrev pub IsNumber : List File → (number : ℕ) → (optional : Bool) → Layout → (i : ℕ) → Type 0
IsNumber files number optional l i =
    IsFirstForm (all_forms files) number optional (layout_keyword l) i

-- the path from the names of a protocol and of its method one step further
abbrev pub method_path : (protocol method : Span) → (last : Step) → List Step
method_path protocol method last = step.Name protocol ∷ step.Name method ∷ last ∷ []

-- the last step to the union in which a method answers, and to the empty struct in it
abbrev pub last_step : (empty : Bool) → Step
last_step false = step.Result
last_step true = step.Response

-- a form is such a union, or such an empty struct
abbrev pub IsAnswerKind : (empty : Bool) → FormKind → Type 0
IsAnswerKind empty (layout_form optional l) = ⊥
IsAnswerKind empty (result_form strict r) = empty ≡ false
IsAnswerKind empty empty_response_form = empty ≡ true

-- a form is that of the method whose name stands there in the file of this number, in the protocol
-- whose name stands there
pub record IsAnswerAt (number : ℕ) (empty : Bool) (protocol method : Span) (form : Form) : Type 0
  where
    pub kind_is : IsAnswerKind empty form.kind
    pub file_is : form.file ≡ number
    pub path_is : form.path ≡ method_path protocol method (last_step empty)
