-- The forms as the code has them.
use Rattle.std.specs.Prelude.{List, map}
use Rattle.fidl_tree.specs.Views.{body_view, response_view, file_view}
use Rattle.fidl_declarations.specs.declared.form.Form.{Form as CodeForm}
use Rattle.fidl_declarations.specs.declared.form.FormKind.{FormKind as CodeKind}
use Rattle.fidl_declarations.specs.declared.form.FormKind.TheVariants.{Layout, Result, EmptyResponse}
use Rattle.fidl_declarations.specs.Forms.{Form, FormKind, layout_form, result_form}
use Rattle.fidl_declarations.specs.Forms.{empty_response_form, name_by_path}

abbrev pub form_kind_view : CodeKind → FormKind
form_kind_view (Layout body optional) = layout_form optional (body_view body.now)
form_kind_view (Result strict response) = result_form strict (response_view response.now)
form_kind_view EmptyResponse = empty_response_form

-- a form of the code, with the plain data of what its references lead to, and its name
abbrev pub form_view : CodeForm → Form
form_view x = record {
  file = x.file_index;
  path = x.path.items;
  name = name_by_path (file_view x.file.now) x.path.items;
  kind = form_kind_view x.kind;
}

-- the same of each
abbrev pub forms_view : List CodeForm → List Form
forms_view forms = map form_view forms
