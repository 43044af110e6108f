use Rattle.std.proofs.Common.{◌≡◌, ◌∙◌, ◌+◌, true, false, List, ◌∷◌, ap, sym}
use Rattle.std.specs.Prelude.{codes, bytes_eq}
use Rattle.std.proofs.lemmas.List.{take_rest}
use Rattle.fidl_tree.specs.Views.{attribute_view, attributes_view}
use Rattle.fidl_tree.specs.declared.attribute.Attribute.{Attribute}
use Rattle.fidl_method_rules.specs.Selectors.{is_selector, selectors}
use Rattle.fidl_method_rules.proofs.Selecting.{first_there, none_further, none_at_all}
use Rattle.fidl_method_rules.proofs.selector.first_selector.Goals as goal

pub returns-then-is_selector-clause-found : goal.returns-then-is_selector-clause-found
returns-then-is_selector-clause-found c =
    let src = c.args.file.now.src.now in
    let xs = c.args.attributes.now in
    let i = c.loop-number.number in
    let a = c.index-attributes-number.result in
    let passes : is_selector src (attribute_view a) ≡ true = ap (λ t. bytes_eq t (codes "selector")) (sym c.text.ensures.bytes) ∙ sym c.is_selector.ensures ∙ c.if-is_selector.true in
    first_there attribute_view (is_selector src) xs i a c.loop-number-test.true c.index-attributes-number.is passes c.loop-number.invariant
    ∙ ap (λ (l : List Attribute). attribute_view a ∷ selectors src (attributes_view l)) (sym (take_rest xs (i + 1)))

pub returns-clause-none : goal.returns-clause-none
returns-clause-none c = λ _. none_at_all attribute_view (is_selector c.args.file.now.src.now) c.args.attributes.now c.loop-number.number c.loop-number-test.false c.loop-number.invariant

pub loop-number-preserved : goal.loop-number-preserved
loop-number-preserved c =
    let src = c.args.file.now.src.now in
    let a = c.index-attributes-number.result in
    let fails : is_selector src (attribute_view a) ≡ false = ap (λ t. bytes_eq t (codes "selector")) (sym c.text.ensures.bytes) ∙ sym c.is_selector.ensures ∙ c.if-is_selector.false in
    none_further attribute_view (is_selector src) c.args.attributes.now c.loop-number.number a c.loop-number-test.true c.index-attributes-number.is fails c.loop-number.invariant
