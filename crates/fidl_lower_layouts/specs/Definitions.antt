-- The definitions of forms (docs/language.md, "Definitions").
use Rattle.std.specs.Prelude.{ℕ, ◌≡◌, Bool, List}
use Rattle.std.specs.List.{AllZip}
use Rattle.fidl_tree.specs.Syntax.{Members, Layout}
use Rattle.fidl_tree.specs.Syntax.{values_layout, struct_layout, table_layout, union_layout}
use Rattle.fidl_tree.specs.declared.file.File.{File}
use Rattle.fidl_declarations.specs.declared.step.Step.{Step}
use Rattle.fidl_declarations.specs.Forms.{Form, FormKind, layout_form, result_form, empty_response_form}
use Rattle.fidl_constraints.specs.Gives.{InFile}
use Rattle.fidl_wire.specs.Term as ty
use Rattle.fidl_wire.specs.Term.{Term, Fields, no_fields, Rows}
use Rattle.fidl_lower_types.specs.Numbers.{all_forms}
use Rattle.fidl_lower_layouts.specs.Members.{members_in, FieldsAre, RowsAre}
use Rattle.fidl_lower_layouts.specs.Values.{ValuesAre}
use Rattle.fidl_lower_layouts.specs.Results.{IsResult}

-- a struct of these members, in the file of this number
pub record IsStructOf (files : List File) (number : ℕ) (f : File) (ms : Members) (t : Term) : Type 0
  where
    pub fields : Fields
    pub are : FieldsAre files number f (members_in ms) fields
    pub is : t ≡ ty.struct fields

-- a table of these members
pub record IsTableOf (files : List File) (number : ℕ) (f : File) (ms : Members) (t : Term) : Type 0
  where
    pub rows : Rows
    pub are : RowsAre files number f (members_in ms) rows
    pub is : t ≡ ty.table rows

-- a union of these members, as it is or where it may be absent
pub record IsUnionOf (files : List File) (number : ℕ) (f : File) (optional strict : Bool)
    (ms : Members) (t : Term) : Type 0 where
  pub rows : Rows
  pub are : RowsAre files number f (members_in ms) rows
  pub is : t ≡ ty.union optional strict rows

-- the definition of a layout; the mark `resource` is no part of it
abbrev pub LayoutIs : List File → (number : ℕ) → File → (optional : Bool) → Layout → Term → Type 0
LayoutIs files number f optional (values_layout values strict keyword u ms) t =
    ValuesAre files f values strict u ms t
LayoutIs files number f optional (struct_layout is_resource keyword ms) t =
    IsStructOf files number f ms t
LayoutIs files number f optional (table_layout is_resource keyword ms) t =
    IsTableOf files number f ms t
LayoutIs files number f optional (union_layout strict is_resource keyword ms) t =
    IsUnionOf files number f optional strict ms t

-- the definition of what stands at this path; that of an empty response is the empty struct
abbrev pub KindIs : List File → (number : ℕ) → File → (path : List Step) → FormKind → Term → Type 0
KindIs files number f path (layout_form optional l) t = LayoutIs files number f optional l t
KindIs files number f path (result_form strict r) t = IsResult files number path strict r t
KindIs files number f path empty_response_form t = t ≡ ty.struct no_fields

-- the definition of a form
abbrev pub DefinitionIs : List File → Form → Term → Type 0
DefinitionIs files form t =
    InFile files form.file (λ f. KindIs files form.file f form.path form.kind t)

-- the definitions of all forms of files, in their order
abbrev pub DefinitionsAre : List File → List Term → Type 0
DefinitionsAre files ts = AllZip (DefinitionIs files) (all_forms files) ts
