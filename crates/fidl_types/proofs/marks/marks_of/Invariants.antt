use Rattle.std.proofs.Common.{◌≡◌, ◌++◌, drop}
use Rattle.fidl_declarations.specs.FormViews.{forms_view}
use Rattle.fidl_types.specs.Marks.{marks_of}
use Rattle.fidl_types.proofs.marks.marks_of.Given as goal

-- the marks so far and those of the forms to come are all
abbrev pub invariant-loop-form : goal.invariant-loop-form
invariant-loop-form l = l.marks.items ++ marks_of (forms_view (drop l.form-index l.forms)) ≡ marks_of (forms_view l.forms)
