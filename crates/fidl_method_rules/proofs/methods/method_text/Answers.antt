use Rattle.std.proofs.Common.{◌≡◌, ℕ, List, [], ◌∷◌, Bor, Option, refl, sym, subst}
use Rattle.std.specs.Prelude.{IfSome, IsNone}
use Rattle.std.specs.Global.{Vec}
use Rattle.fidl_span.specs.declared.words.Span.{Span}
use Rattle.fidl_tree.specs.Views.{attribute_view, attributes_view, file_view}
use Rattle.fidl_method_rules.specs.Texts.{MaySelect}
use Rattle.fidl_tree.specs.declared.attribute.Attribute.{Attribute}
use Rattle.fidl_method_rules.specs.Selectors.{selectors, Gives, SelectorsBreak}
use Rattle.fidl_method_rules.specs.Methods.{SelectedBy, TextIs}
use Rattle.fidl_method_rules.proofs.methods.method_text.Goals as goal

pub returns-in-Err-clause-fault_is_true : goal.returns-in-Err-clause-fault_is_true
returns-in-Err-clause-fault_is_true c = (
  c.place.ensures.file,
  subst (λ (s : Span). SelectorsBreak c.args.scope.now.file.now.src.now (attributes_view c.args.method.attributes.now) s) (sym c.place.ensures.span) c.in-Err.ensures.several,
)

pub returns-in-Some-clause-ok : goal.returns-in-Some-clause-ok
returns-in-Some-clause-ok c =
    let f = file_view c.args.scope.now.file.now in
    let a = attribute_view c.in-Ok-Some.attribute.now in
    let selected = subst (λ (o : Option (Vec ℕ)). IfSome o (λ t. SelectedBy f c.args.scope.now.protocol.now.name a t.items)) c.in-Some.is c.in_ok-text.ensures.found in
    let one : selectors c.args.scope.now.file.now.src.now (attributes_view c.args.method.attributes.now) ≡ a ∷ [] = subst (λ (o : Option (Bor Attribute)). IfSome o (λ x. selectors c.args.scope.now.file.now.src.now (attributes_view c.args.method.attributes.now) ≡ attribute_view x.now ∷ [])) c.in-Ok-Some.field-0-is c.in-Ok-Some.ensures.found in
    TextIs.by_selector a one selected

pub returns-in-None-clause-fault_is_true : goal.returns-in-None-clause-fault_is_true
returns-in-None-clause-fault_is_true c =
    let src = c.args.scope.now.file.now.src.now in
    let a = attribute_view c.in-Ok-Some.attribute.now in
    let wrong = subst (λ (o : Option (Vec ℕ)). IsNone o → (given : List ℕ) → Gives src a given → MaySelect given → ⊥) c.in-None.is c.in_ok-text.ensures.none refl in
    let one : selectors c.args.scope.now.file.now.src.now (attributes_view c.args.method.attributes.now) ≡ a ∷ [] = subst (λ (o : Option (Bor Attribute)). IfSome o (λ x. selectors c.args.scope.now.file.now.src.now (attributes_view c.args.method.attributes.now) ≡ attribute_view x.now ∷ [])) c.in-Ok-Some.field-0-is c.in-Ok-Some.ensures.found in
    (c.place-in-None.ensures.file, SelectorsBreak.by_text a one wrong c.place-in-None.ensures.span)
