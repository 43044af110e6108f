-- The forms of declared types, which are the roots of a table (docs/language.md, "Laying out").
use Rattle.std.specs.Prelude.{ℕ, ◌≡◌, ◌↔◌, true, false, List, [], ◌∷◌, Option, Some, None, slice_get}
use Rattle.std.specs.List.{Contains, filter_map}
use Rattle.fidl_span.specs.declared.words.Span.{Span}
use Rattle.fidl_tree.specs.Syntax.{Layout}
use Rattle.fidl_tree.specs.declared.file.File.{File}
use Rattle.fidl_tree.specs.declared.declaration.Declaration.{Declaration}
use Rattle.fidl_tree.specs.declared.declaration.DeclarationBody.{DeclarationBody}
use Rattle.fidl_tree.specs.declared.declaration.DeclarationBody.TheVariants as body
use Rattle.fidl_declarations.specs.declared.step.Step.TheVariants as step
use Rattle.fidl_declarations.specs.Forms.{Form, FormKind, layout_form, result_form, empty_response_form}
use Rattle.fidl_lower_types.specs.Numbers.{all_forms}

-- where the name begins of what is declared by `type`, in bytes
abbrev pub type_start : DeclarationBody → Option ℕ
type_start (body.«Type» d) = Some d.name.from
type_start _ = None

-- those of a file
abbrev pub type_starts : File → List ℕ
type_starts f = filter_map (λ (d : Declaration). type_start d.body) f.declarations.items

-- a form is that of a declared type, as it is: its path is the name of that
pub record IsRoot (files : List File) (form : Form) : Type 0 where
  pub f : File
  pub file_at : slice_get files form.file ≡ Some f
  pub name : Span
  pub declared : Contains (type_starts f) name.from
  pub path_is : form.path ≡ step.Name name ∷ []
  pub layout : Layout
  pub kind_is : form.kind ≡ layout_form false layout

-- the form of this number is one
pub record RootAt (files : List File) (i : ℕ) : Type 0 where
  pub form : Form
  pub at : slice_get (all_forms files) i ≡ Some form
  pub is : IsRoot files form

-- a list has the numbers of all roots, and no other
pub record AreRoots (files : List File) (roots : List ℕ) : Type 0 where
  pub sound : (i : ℕ) → Contains roots i → RootAt files i
  pub complete : (i : ℕ) → RootAt files i → Contains roots i

-- these are the places where the names of the declared types of a file begin
abbrev pub AreStarts : File → (starts : List ℕ) → Type 0
AreStarts f starts = (n : ℕ) → Contains starts n ↔ Contains (type_starts f) n

-- a layout as it is, and not for where it may be absent
abbrev pub IsPlain : FormKind → Type 0
IsPlain (layout_form true l) = ⊥
IsPlain (layout_form false l) = Unit {0}
IsPlain (result_form strict r) = ⊥
IsPlain empty_response_form = ⊥
