-- How many members are written in bits and enums (docs/language.md, "Laying out"). A flexible
-- definition doesn't have them, so its term says nothing of their number.
use Rattle.std.specs.Prelude.{ℕ, ◌≡◌, ◌≤◌, ◌<◌, List, Some, length, slice_get}
use Rattle.std.specs.List.{AllByRecursion}
use Rattle.fidl_limits.specs.declared.limits.TheConstants.{MAX_LAYOUT_MEMBERS}
use Rattle.fidl_tree.specs.Syntax.{Layout, values_layout, struct_layout, table_layout, union_layout}
use Rattle.fidl_declarations.specs.Forms.{Form, FormKind, layout_form, result_form, empty_response_form}

abbrev pub layout_values : Layout → ℕ
layout_values (values_layout values strict keyword u ms) = length ms
layout_values (struct_layout is_resource keyword ms) = 0
layout_values (table_layout is_resource keyword ms) = 0
layout_values (union_layout strict is_resource keyword ms) = 0

abbrev pub written_values : FormKind → ℕ
written_values (layout_form optional l) = layout_values l
written_values (result_form strict r) = 0
written_values empty_response_form = 0

-- no bits or enum has too many
abbrev pub ValuesFit : List Form → Type 0
ValuesFit forms =
    AllByRecursion (λ (form : Form). written_values form.kind ≤ MAX_LAYOUT_MEMBERS) forms

-- those of this number do
pub record HasTooManyValues (forms : List Form) (i : ℕ) : Type 0 where
  pub form : Form
  pub at : slice_get forms i ≡ Some form
  pub many : MAX_LAYOUT_MEMBERS < written_values form.kind
