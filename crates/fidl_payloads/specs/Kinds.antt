-- Which types may be payloads (docs/language.md, "Payloads").
use Rattle.std.specs.Prelude.{ℕ, ◌≡◌, false, List, Some, slice_get}
use Rattle.fidl_tree.specs.Syntax.{TypeUse}
use Rattle.fidl_tree.specs.Syntax.{Layout, values_layout, struct_layout, table_layout, union_layout}
use Rattle.fidl_tree.specs.declared.file.File.{File}
use Rattle.fidl_declarations.specs.Forms.{Form, FormKind, layout_form, result_form, empty_response_form}
use Rattle.fidl_wire.specs.Term as ty
use Rattle.fidl_wire.specs.Term.{Term}
use Rattle.fidl_lower_types.specs.Numbers.{all_forms}
use Rattle.fidl_lower_types.specs.Terms.{TermIs}

-- a layout is a struct, a table or a union
abbrev pub IsPayloadLayout : Layout → Type 0
IsPayloadLayout (values_layout values strict keyword u ms) = ⊥
IsPayloadLayout (struct_layout is_resource keyword ms) = Unit {0}
IsPayloadLayout (table_layout is_resource keyword ms) = Unit {0}
IsPayloadLayout (union_layout strict is_resource keyword ms) = Unit {0}

-- a form is such a layout, and not a union where it may be absent. Results and empty responses are
-- never written as payloads
abbrev pub IsPayloadForm : FormKind → Type 0
IsPayloadForm (layout_form optional l) = (optional ≡ false) × IsPayloadLayout l
IsPayloadForm (result_form strict r) = ⊥
IsPayloadForm empty_response_form = ⊥

-- the form of this number is one
pub record IsPayloadAt (forms : List Form) (i : ℕ) : Type 0 where
  pub form : Form
  pub at : slice_get forms i ≡ Some form
  pub is : IsPayloadForm form.kind

-- a type in the file of this number may be a payload, and is the definition of number i, aliases
-- followed
pub record IsPayload (files : List File) (number : ℕ) (t : TypeUse) (i : ℕ) : Type 0 where
  pub term : TermIs files number t (ty.named i)
  pub may_be : IsPayloadAt (all_forms files) i

-- a definition is a struct, a table or a union that is never absent
abbrev pub MayBePayload : Term → Type 0
MayBePayload (ty.struct fs) = Unit {0}
MayBePayload (ty.table rows) = Unit {0}
MayBePayload (ty.union optional strict rows) = optional ≡ false
MayBePayload _ = ⊥

-- the definition of number i of these is one
pub record IsPayloadDefinition (ts : List Term) (i : ℕ) : Type 0 where
  pub definition : Term
  pub at : slice_get ts i ≡ Some definition
  pub may_be : MayBePayload definition
