use Rattle.std.proofs.Common.{Option}
use Rattle.std.specs.Prelude.{IfSome}
use Rattle.std.proofs.lemmas.Result.{IfOk-weaker}
use Rattle.fidl_declarations.specs.FormViews.{form_kind_view, form_view}
use Rattle.fidl_ir.specs.declared.term.Definition.{Definition}
use Rattle.fidl_ir.specs.Terms.{definition_view}
use Rattle.fidl_lower_layouts.specs.Definitions.{KindIs, DefinitionIs}
use Rattle.fidl_lower_layouts.proofs.Bodies.{some_more}
use Rattle.fidl_lower_layouts.proofs.definition.definition_of.Goals as goal

pub returns-clause-found : goal.returns-clause-found
returns-clause-found c =
    let files = c.args.sources.now.named.now in
    let form = c.args.form.now in
    let f = c.file.result.now in
    IfOk-weaker c.kind_definition.result (λ (o : Option Definition). IfSome o (λ d. KindIs files form.file_index f form.path.items (form_kind_view form.kind) (definition_view d)))
    (λ (o : Option Definition). IfSome o (λ d. DefinitionIs files (form_view form) (definition_view d)))
    (some_more (λ (d : Definition). KindIs files form.file_index f form.path.items (form_kind_view form.kind) (definition_view d)) (λ (d : Definition). DefinitionIs files (form_view form) (definition_view d))
    (λ d h. record { file = f; at = c.file.ensures; is = h }))
    c.kind_definition.ensures.found
