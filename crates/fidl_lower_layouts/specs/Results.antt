-- The unions in which methods answer (docs/language.md, "Definitions").
use Rattle.std.specs.Prelude.{ℕ, ◌≡◌, Bool, true, false, List, Option, Some, None, codes}
use Rattle.fidl_tree.specs.Syntax.{TypeUse, Response}
use Rattle.fidl_tree.specs.declared.file.File.{File}
use Rattle.fidl_declarations.specs.declared.step.Step.{Step}
use Rattle.fidl_declarations.specs.declared.step.Step.TheVariants as step
use Rattle.fidl_declarations.specs.Sites.{within}
use Rattle.fidl_declarations.specs.Forms.{Form, empty_response_form}
use Rattle.fidl_wire.specs.Term as ty
use Rattle.fidl_wire.specs.Term.{Term, Rows, no_rows, row}
use Rattle.fidl_lower_types.specs.Numbers.{all_forms, IsFirst}
use Rattle.fidl_lower_types.specs.Terms.{TermIs}

-- two paths are those of the result and of the response of one method
pub record AreOfOneMethod (result_path response_path : List Step) : Type 0 where
  pub method : List Step
  pub of_result : result_path ≡ within method step.Result
  pub of_response : response_path ≡ within method step.Response

-- a form is the empty response in the result at this path of the file of this number
pub record IsEmptyOf (number : ℕ) (result_path : List Step) (form : Form) : Type 0 where
  pub kind_is : form.kind ≡ empty_response_form
  pub file_is : form.file ≡ number
  pub of_method : AreOfOneMethod result_path form.path

-- it is the first such form of a list, and its place there is a number of 32 bits
abbrev pub IsFirstEmpty : List Form → (number : ℕ) → (result_path : List Step) → (i : ℕ) → Type 0
IsFirstEmpty forms number result_path i = IsFirst forms (IsEmptyOf number result_path) i

-- the number of an empty response
abbrev pub IsEmptyNumber : List File → (number : ℕ) → (result_path : List Step) → (i : ℕ) → Type 0
IsEmptyNumber files number result_path i = IsFirstEmpty (all_forms files) number result_path i

-- the term of the member `response`: the payload's, or the definition of the empty response
abbrev pub ResponseIs : List File → (number : ℕ) → (result_path : List Step)
    → (payload : Option TypeUse) → Term → Type 0
ResponseIs files number result_path (Some t) e = TermIs files number t e
ResponseIs files number result_path None e =
    (i : ℕ) × IsEmptyNumber files number result_path i × (e ≡ ty.named i)

-- the term of the type after `error`, where one is written
abbrev pub ErrorIs : List File → (number : ℕ) → (error : Option TypeUse) → Option Term → Type 0
ErrorIs files number (Some t) (Some e) = TermIs files number t e
ErrorIs files number None None = Unit {0}
ErrorIs files number (Some t) None = ⊥
ErrorIs files number None (Some e) = ⊥

-- the member `framework_err`, which a flexible method has
abbrev pub framework_rows : (strict : Bool) → Rows
framework_rows true = no_rows
framework_rows false = row 3 (codes "framework_err") (ty.number ty.int32) no_rows

-- the member `err`, where there is one, before others
abbrev pub error_rows : Option Term → Rows → Rows
error_rows None rest = rest
error_rows (Some e) rest = row 2 (codes "err") e rest

-- the members of a result
abbrev pub result_rows : (strict : Bool) → (response : Term) → (error : Option Term) → Rows
result_rows strict response error =
    row 1 (codes "response") response (error_rows error (framework_rows strict))

-- the union in which a method of this path answers
pub record IsResult (files : List File) (number : ℕ) (path : List Step) (strict : Bool)
    (r : Response) (t : Term) : Type 0 where
  pub response : Term
  pub error : Option Term
  pub response_is : ResponseIs files number path r.payload response
  pub error_is : ErrorIs files number r.error error
  pub is : t ≡ ty.union false true (result_rows strict response error)
