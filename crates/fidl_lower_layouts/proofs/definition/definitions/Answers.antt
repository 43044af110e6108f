use Rattle.std.proofs.Common.{List, Option, ◌++◌, ◌∷◌, [], refl, ap, sym, subst, take, ◌+◌, ◌∙◌, ◌≡◌}
use Rattle.std.specs.Prelude.{IfSome, IsNone}
use Rattle.std.specs.List.{AllZip}
use Rattle.std.proofs.lemmas.List.{map-append}
use Rattle.fidl_declarations.specs.Forms.{Form}
use Rattle.fidl_declarations.specs.FormViews.{form_view, forms_view}
use Rattle.fidl_wire.specs.Term.{Term}
use Rattle.fidl_ir.specs.declared.term.Definition.{Definition}
use Rattle.fidl_ir.specs.Terms.{definition_view, definitions_view}
use Rattle.fidl_lower_layouts.specs.Definitions.{DefinitionIs}
use Rattle.fidl_member_rules.proofs.Listing.{one_more, one_there}
use Rattle.fidl_lower_layouts.proofs.definition.definitions.Goals as goal

pub returns-in_default-clause-none : goal.returns-in_default-clause-none
returns-in_default-clause-none c = λ _ ts h.
    let R = DefinitionIs c.args.sources.now.named.now in
    let forms = c.args.sources.now.forms.now in
    let m = c.form-item.result in
    let none = subst (λ (o : Option Definition). IsNone o → (t : Term) → R (form_view m) t → ⊥) c.in_default.is c.in_ok-next.ensures.none refl in
    let one = one_there R form_view forms c.loop-form.form-index m c.loop-form-test.true c.form-item.is ts (subst (λ (l : List Form). AllZip R l ts) (sym c.requires.forms) h) in
    none one.0 one.1

pub loop-form-preserved : goal.loop-form-preserved
loop-form-preserved c =
    let R = DefinitionIs c.args.sources.now.named.now in
    let forms = c.args.sources.now.forms.now in
    let m = c.form-item.result in
    let i = c.loop-form.form-index in
    let d = c.in-Some.next in
    let given = subst (λ (o : Option Definition). IfSome o (λ d. R (form_view m) (definition_view d))) c.in-Some.is c.in_ok-next.ensures.found in
    let more = one_more R form_view forms i m c.loop-form-test.true c.form-item.is (definitions_view c.loop-form.found.items) (definition_view d) c.loop-form.invariant given in
    let pushed : definitions_view c.loop-form.found.items ++ definition_view d ∷ [] ≡ definitions_view c.push.new.self.items = sym (map-append definition_view c.loop-form.found.items (d ∷ [])) ∙ ap definitions_view (sym c.in_ok-push.ensures.items) in
    subst (λ (l : List Term). AllZip R (take (i + 1) (forms_view forms)) l) pushed more
