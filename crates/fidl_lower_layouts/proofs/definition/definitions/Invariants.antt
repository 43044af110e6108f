use Rattle.std.proofs.Common.{take}
use Rattle.std.specs.List.{AllZip}
use Rattle.fidl_declarations.specs.FormViews.{forms_view}
use Rattle.fidl_ir.specs.Terms.{definitions_view}
use Rattle.fidl_lower_layouts.specs.Definitions.{DefinitionIs}
use Rattle.fidl_lower_layouts.proofs.definition.definitions.Given as goal

-- the definitions so far are those of the forms so far
abbrev pub invariant-loop-form : goal.invariant-loop-form
invariant-loop-form l = AllZip (DefinitionIs l.sources.named.now) (take l.form-index (forms_view l.sources.forms.now)) (definitions_view l.found.items)
