use Rattle.std.proofs.Common.{rules, refl, codes}
use Rattle.std.proofs.lemmas.Bool.{false≢true}
use Rattle.fidl_parse.specs.FollowSets.{strictness_words}
use Rattle.fidl_parse.proofs.Keywords.{strict_ahead, flexible_ahead, no_strictness}
use Rattle.fidl_parse.proofs.Words.{not_word}
use Rattle.fidl_parse.proofs.parser.Parser.strictness.Goals as goal

pub returns-in_err-keyword-clause-present : goal.returns-in_err-keyword-clause-present
returns-in_err-keyword-clause-present c x rest m a =
    let s = strict_ahead _ _ x rest (c.is_next_word.ensures.next.0 c.if-is_next_word.true) a in
    let h = c.in_err-keyword.ensures.complete s.0 _ tt s.1 in
    search (rules, h)

pub returns-then-is_next_word-clause-present : goal.returns-then-is_next_word-clause-present
returns-then-is_next_word-clause-present c x rest m a =
    let s = strict_ahead _ _ x rest (c.is_next_word.ensures.next.0 c.if-is_next_word.true) a in
    c.in_ok-keyword.ensures.complete s.0 _ tt s.1

pub returns-in_err-keyword-2-clause-present : goal.returns-in_err-keyword-2-clause-present
returns-in_err-keyword-2-clause-present c x rest m a =
    let s = flexible_ahead _ _ x rest (c.is_next_word-2.ensures.next.0 c.if-is_next_word-2.true) a in
    let h = c.in_err-keyword-2.ensures.complete s.0 _ tt s.1 in
    search (rules, h)

pub returns-then-is_next_word-2-clause-present : goal.returns-then-is_next_word-2-clause-present
returns-then-is_next_word-2-clause-present c x rest m a =
    let s = flexible_ahead _ _ x rest (c.is_next_word-2.ensures.next.0 c.if-is_next_word-2.true) a in
    c.in_ok-keyword-2.ensures.complete s.0 _ tt s.1

pub returns-clause-present : goal.returns-clause-present
returns-clause-present c x rest m a =
    absurd (no_strictness _ _ x rest (λ e. false≢true (c.if-is_next_word.ensures.next.1 e)) (λ e. false≢true (c.if-is_next_word-2.ensures.next.1 e)) a)

pub returns-in_err-keyword-clause-absent : goal.returns-in_err-keyword-clause-absent
returns-in_err-keyword-clause-absent c rest n a =
    absurd (not_word _ _ (codes "strict") strictness_words rest refl n (c.is_next_word.ensures.next.0 c.if-is_next_word.true) a)

pub returns-then-is_next_word-clause-absent : goal.returns-then-is_next_word-clause-absent
returns-then-is_next_word-clause-absent c rest n a =
    absurd (not_word _ _ (codes "strict") strictness_words rest refl n (c.is_next_word.ensures.next.0 c.if-is_next_word.true) a)

pub returns-in_err-keyword-2-clause-absent : goal.returns-in_err-keyword-2-clause-absent
returns-in_err-keyword-2-clause-absent c rest n a =
    absurd (not_word _ _ (codes "flexible") strictness_words rest refl n (c.is_next_word-2.ensures.next.0 c.if-is_next_word-2.true) a)

pub returns-then-is_next_word-2-clause-absent : goal.returns-then-is_next_word-2-clause-absent
returns-then-is_next_word-2-clause-absent c rest n a =
    absurd (not_word _ _ (codes "flexible") strictness_words rest refl n (c.is_next_word-2.ensures.next.0 c.if-is_next_word-2.true) a)

pub returns-clause-absent : goal.returns-clause-absent
returns-clause-absent c rest n a =
    (refl, a)
