use Rattle.std.proofs.Common.{◌≡◌, ◌++◌, drop, map}
use Rattle.fidl_declarations.specs.FormViews.{forms_view}
use Rattle.fidl_table.specs.Listed.{names_of}
use Rattle.fidl_table.proofs.definitions.definition_names.Given as goal

-- the names so far and those of the forms to come are all
abbrev pub invariant-loop-form : goal.invariant-loop-form
invariant-loop-form l = map (λ v. v.items) l.names.items ++ names_of (forms_view (drop l.form-index l.forms)) ≡ names_of (forms_view l.forms)
