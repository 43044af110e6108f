use Rattle.std.proofs.Common.{Option, refl, sym, subst, true≢false}
use Rattle.std.specs.Prelude.{IsNone}
use Rattle.fidl_named.specs.declared.meaning.Predeclared.{Predeclared}
use Rattle.fidl_constraints.specs.BehindViews.{use_view}
use Rattle.fidl_type_rules.specs.Words.{IsWord}
use Rattle.fidl_type_rules.proofs.words.is_left_out.Goals as goal

pub returns-in-None : goal.returns-in-None
returns-in-None c =
    let fs = c.args.sources.now.named.now in
    let i = c.args.file_index in
    let t = use_view c.args.of in
    let none = subst (λ (o : Option Predeclared). IsNone o → (w : Predeclared) → IsWord fs i t w → ⊥) c.in-None.is c.in_ok-word_of.ensures.none refl in
    ((λ yes. absurd (true≢false (sym yes))), λ h. absurd (none h.word h.is))
