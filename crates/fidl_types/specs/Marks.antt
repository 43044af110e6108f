-- What makes each form a resource (docs/language.md, "Checking types").
use Rattle.std.specs.Prelude.{Bool, true, false, List, map}
use Rattle.fidl_tree.specs.Syntax.{Layout, values_layout, struct_layout, table_layout, union_layout}
use Rattle.fidl_declarations.specs.Forms.{Form, FormKind, layout_form, result_form, empty_response_form}
use Rattle.fidl_ir_rules.specs.declared.mark.Mark.{Mark}
use Rattle.fidl_ir_rules.specs.declared.mark.Mark.TheVariants.{Resource, Value, Result}

-- the mark of what is written with the modifier `resource`, or without
abbrev pub word_mark : (is_resource : Bool) → Mark
word_mark true = Resource
word_mark false = Value

-- bits and enums are never resources
abbrev pub layout_mark : Layout → Mark
layout_mark (values_layout values strict keyword u ms) = Value
layout_mark (struct_layout is_resource keyword ms) = word_mark is_resource
layout_mark (table_layout is_resource keyword ms) = word_mark is_resource
layout_mark (union_layout strict is_resource keyword ms) = word_mark is_resource

-- a result has no mark of its own, and an empty response holds nothing
abbrev pub form_mark : FormKind → Mark
form_mark (layout_form optional l) = layout_mark l
form_mark (result_form strict r) = Result
form_mark empty_response_form = Value

-- the marks of forms, in their order
abbrev pub marks_of : List Form → List Mark
marks_of forms = map (λ (form : Form). form_mark form.kind) forms
