use Rattle.std.proofs.Common.{ℕ, List, Option, refl, subst}
use Rattle.std.specs.Prelude.{IsNone}
use Rattle.std.specs.Global.{Vec}
use Rattle.fidl_tree.specs.Views.{attribute_view}
use Rattle.fidl_method_rules.specs.Selectors.{Gives}
use Rattle.fidl_method_rules.proofs.selector.selected_text.Goals as goal

pub returns-in-None-clause-none : goal.returns-in-None-clause-none
returns-in-None-clause-none c = λ _ given gives _.
    let none = subst (λ (o : Option (Vec ℕ)). IsNone o → (text : List ℕ) → Gives c.args.file.now.src.now (attribute_view c.args.attribute.now) text → ⊥) c.in-None.is c.in_ok-given_text.ensures.none refl in
    none given gives
