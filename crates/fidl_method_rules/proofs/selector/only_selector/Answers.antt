use Rattle.std.proofs.Common.{◌∙◌, ◌∷◌, ap, refl}
use Rattle.fidl_tree.specs.Views.{attribute_view, attributes_view}
use Rattle.fidl_method_rules.specs.Selectors.{selectors, SelectorsBreak}
use Rattle.fidl_method_rules.proofs.selector.only_selector.Goals as goal

pub returns-in-Some-first_selector-clause-several : goal.returns-in-Some-first_selector-clause-several
returns-in-Some-first_selector-clause-several c =
    let first = attribute_view c.in-Some.first.now in
    let two = c.in-Some-first_selector in
    SelectorsBreak.by_number first (attribute_view two.second.now) (selectors c.args.file.now.src.now (attributes_view two.field-0-1.now))
    (c.in-Some.ensures.found ∙ ap (λ l. first ∷ l) two.ensures.found) refl
