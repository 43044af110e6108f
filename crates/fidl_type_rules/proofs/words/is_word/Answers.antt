use Rattle.std.proofs.Common.{Option, refl, subst}
use Rattle.std.specs.Prelude.{IsNone}
use Rattle.fidl_named.specs.declared.meaning.Predeclared.{Predeclared}
use Rattle.fidl_constraints.specs.BehindViews.{use_view}
use Rattle.fidl_type_rules.specs.Words.{IsWord}
use Rattle.fidl_type_rules.proofs.words.is_word.Goals as goal

pub returns-in-None-clause-no : goal.returns-in-None-clause-no
returns-in-None-clause-no c = λ w h.
    let t = use_view c.args.of in
    let none = subst (λ (o : Option Predeclared). IsNone o → (w : Predeclared) → IsWord c.args.sources.now.named.now c.args.file_index t w → ⊥) c.in-None.is c.in_ok-word_of.ensures.none refl in
    absurd (none w h)
