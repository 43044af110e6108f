use Rattle.std.proofs.Common.{Option, sym, subst, refl, true≢false, ◌∙◌}
use Rattle.fidl_named.specs.declared.meaning.Meaning.{Meaning}
use Rattle.fidl_named.specs.Meanings.{IsOwn, IsJust}
use Rattle.fidl_named.proofs.Readings.{simple_own, simple_word, simple_other, simple_none}
use Rattle.fidl_named.proofs.reading.simple.Goals as goal

pub returns-in-Some : goal.returns-in-Some
returns-in-Some c =
    simple_own c.args.set.now c.args.library.now c.args.wanted c.args.name.now c.in-Some.meaning
    (subst (λ (o : Option Meaning). IsJust (IsOwn c.args.set.now c.args.library.now c.args.wanted c.args.name.now) o) c.in-Some.is c.in_ok-meaning.ensures)

pub returns-then-is_predeclared_kind : goal.returns-then-is_predeclared_kind
returns-then-is_predeclared_kind c =
    simple_word c.args.set.now c.args.library.now c.args.wanted c.args.name.now c.in-Some-find_predeclared.word
    (subst (λ (o : Option Meaning). IsJust (IsOwn c.args.set.now c.args.library.now c.args.wanted c.args.name.now) o) c.in_default.is c.in_ok-meaning.ensures)
    c.in-Some-find_predeclared.ensures.found (c.is_predeclared_kind.ensures.0 c.if-is_predeclared_kind.true)

pub returns-in-None : goal.returns-in-None
returns-in-None c =
    simple_none c.args.set.now c.args.library.now c.args.wanted c.args.name.now
    (subst (λ (o : Option Meaning). IsJust (IsOwn c.args.set.now c.args.library.now c.args.wanted c.args.name.now) o) c.in_default.is c.in_ok-meaning.ensures)
    (c.in-None.ensures.none refl)

pub returns-else-is_predeclared_kind : goal.returns-else-is_predeclared_kind
returns-else-is_predeclared_kind c =
    simple_other c.args.set.now c.args.library.now c.args.wanted c.args.name.now c.in-Some-find_predeclared.word
    (subst (λ (o : Option Meaning). IsJust (IsOwn c.args.set.now c.args.library.now c.args.wanted c.args.name.now) o) c.in_default.is c.in_ok-meaning.ensures)
    c.in-Some-find_predeclared.ensures.found (λ h. absurd (true≢false (sym (c.is_predeclared_kind.ensures.1 h) ∙ c.if-is_predeclared_kind.false)))
