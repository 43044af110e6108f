use Rattle.std.proofs.Common.{rules, refl, codes, ◌∷◌, []}
use Rattle.std.proofs.lemmas.Bool.{false≢true}
use Rattle.fidl_parse.proofs.Words.{not_word, text_ahead}
use Rattle.fidl_parse.proofs.parser.Parser.resource.Goals as goal

pub returns-then-not-is_next_word-clause-present : goal.returns-then-not-is_next_word-clause-present
returns-then-not-is_next_word-clause-present c x rest m a =
    absurd (false≢true (c.if-not-is_next_word.ensures.next.1 (text_ahead _ _ (codes "resource") x.keyword rest a)))

pub returns-then-not-is_next_word-clause-absent : goal.returns-then-not-is_next_word-clause-absent
returns-then-not-is_next_word-clause-absent c rest n a =
    (refl, a)

pub returns-in_err-keyword-clause-present : goal.returns-in_err-keyword-clause-present
returns-in_err-keyword-clause-present c x rest m a =
    let h = c.in_err-keyword.ensures.complete x.keyword _ tt a in
    search (rules, h)

pub returns-in_err-keyword-clause-absent : goal.returns-in_err-keyword-clause-absent
returns-in_err-keyword-clause-absent c rest n a =
    absurd (not_word _ _ (codes "resource") (codes "resource" ∷ []) rest refl n (c.is_next_word.ensures.next.0 c.if-not-is_next_word.false) a)

pub returns-clause-present : goal.returns-clause-present
returns-clause-present c x rest m a =
    c.in_ok-keyword.ensures.complete x.keyword _ tt a

pub returns-clause-absent : goal.returns-clause-absent
returns-clause-absent c rest n a =
    absurd (not_word _ _ (codes "resource") (codes "resource" ∷ []) rest refl n (c.is_next_word.ensures.next.0 c.if-not-is_next_word.false) a)
