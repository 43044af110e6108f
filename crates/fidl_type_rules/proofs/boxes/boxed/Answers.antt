use Rattle.std.proofs.Common.{Option, refl, subst}
use Rattle.std.specs.Prelude.{IsNone}
use Rattle.fidl_named.specs.declared.meaning.Predeclared.{Predeclared}
use Rattle.fidl_named.specs.declared.meaning.Predeclared.TheVariants as name
use Rattle.fidl_constraints.specs.BehindViews.{use_view}
use Rattle.fidl_type_rules.specs.Words.{IsWord}
use Rattle.fidl_type_rules.proofs.boxes.boxed.Goals as goal

pub returns-in_default-clause-none : goal.returns-in_default-clause-none
returns-in_default-clause-none c = λ _ t h.
    let none = subst (λ (o : Option Predeclared). IsNone o → (w : Predeclared) → IsWord c.args.sources.now.named.now c.args.file_index (use_view c.args.of) w → ⊥) c.in_default.is c.in_ok-word.ensures.none refl in
    none name.Box h.is
