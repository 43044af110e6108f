use Rattle.std.proofs.Common.{◌≡◌, ◌∙◌, ◌==◌, ◌+◌, ◌∷◌, false, take, ap, sym}
use Rattle.std.proofs.lemmas.List.{take_rest}
use Rattle.std.proofs.lemmas.List.Elements.{All-more}
use Rattle.fidl_method_rules.specs.Texts.{parts}
use Rattle.fidl_method_rules.proofs.Cuts.{cut_there, cut_nowhere, other_byte}
use Rattle.fidl_method_rules.proofs.texts.cut.Goals as goal

pub returns-then-other-byte-clause-found : goal.returns-then-other-byte-clause-found
returns-then-other-byte-clause-found c =
    let text = c.args.text.now in
    let at = c.loop-at.at in
    cut_there c.args.byte text at c.loop-at-test.true c.loop-at.invariant c.if-other-byte.true
    ∙ ap (λ rest. take at text ∷ parts c.args.byte rest) (sym (take_rest text (at + 1)))

pub returns-clause-none : goal.returns-clause-none
returns-clause-none c = λ _. cut_nowhere c.args.byte c.args.text.now c.loop-at.at c.loop-at-test.false c.loop-at.invariant

pub loop-at-preserved : goal.loop-at-preserved
loop-at-preserved c =
    All-more (λ b. (b == c.args.byte) ≡ false) c.args.text.now c.loop-at.at 0 c.loop-at-test.true c.loop-at.invariant (other_byte c.args.byte _ c.if-other-byte.false)
