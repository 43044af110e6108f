use Rattle.std.proofs.Common.{codes, sym, ◌∙◌}
use Rattle.std.proofs.lemmas.Bool.{false≢true}
use Rattle.fidl_parse.specs.FollowSets.{strictness_words}
use Rattle.fidl_tree.specs.Keyword.{strictness_leaves, resource_leaves}
use Rattle.fidl_parse.proofs.Keywords.{resource_told, strictness_ahead, option_ahead, option_stops, option_lacks}
use Rattle.fidl_parse.proofs.Words.{not_first_word}
use Rattle.fidl_parse.proofs.Stops.{stops}
use Rattle.fidl_parse.proofs.Joins.{reads_join}
use Rattle.fidl_parse.proofs.parser.Parser.modifiers.Goals as goal

pub returns-then-is_next_word-clause-resource : goal.returns-then-is_next_word-clause-resource
returns-then-is_next_word-clause-resource c x rest m a e =
    absurd (resource_told _ _ x rest (c.is_next_word.ensures.next.0 c.if-is_next_word.true) m a e)

pub returns-in_err-resource-clause-complete : goal.returns-in_err-resource-clause-complete
returns-in_err-resource-clause-complete c x rest m a =
    let s = strictness_ahead _ _ x rest (λ e. false≢true (c.if-is_next_word.ensures.next.1 e)) m a in
    let b1 = option_ahead strictness_leaves _ _ _ _ s.strictness _ c.in_ok-strictness.ensures.present (c.in_ok-strictness.ensures.absent _ s.may) s.ahead in
    let n = not_first_word (codes "resource") strictness_words rest m in
    let h = option_stops resource_leaves _ _ _ _ s.resource rest c.in_err-resource.ensures.present (c.in_err-resource.ensures.absent rest n) b1 in
    stops _ _ _ _ c.from_residual-in_err-resource.ensures (λ x g. g) h

pub returns-clause-complete : goal.returns-clause-complete
returns-clause-complete c x rest m a =
    let s = strictness_ahead _ _ x rest (λ e. false≢true (c.if-is_next_word.ensures.next.1 e)) m a in
    let b1 = option_ahead strictness_leaves _ _ _ _ s.strictness _ c.in_ok-strictness.ensures.present (c.in_ok-strictness.ensures.absent _ s.may) s.ahead in
    let n = not_first_word (codes "resource") strictness_words rest m in
    option_ahead resource_leaves _ _ _ _ s.resource rest c.in_ok-resource.ensures.present (c.in_ok-resource.ensures.absent rest n) b1

pub returns-then-is_next_word-clause-complete : goal.returns-then-is_next_word-clause-complete
returns-then-is_next_word-clause-complete c = c.resource_first.ensures.complete (c.is_next_word.ensures.next.0 c.if-is_next_word.true)

pub returns-then-is_next_word-clause-strictness : goal.returns-then-is_next_word-clause-strictness
returns-then-is_next_word-clause-strictness c = c.resource_first.ensures.strictness (c.is_next_word.ensures.next.0 c.if-is_next_word.true)

pub returns-in_err-strictness-clause-complete : goal.returns-in_err-strictness-clause-complete
returns-in_err-strictness-clause-complete c x rest m a =
    let s = strictness_ahead _ _ x rest (λ e. false≢true (c.if-is_next_word.ensures.next.1 e)) m a in
    let h = option_stops strictness_leaves _ _ _ _ s.strictness _ c.in_err-strictness.ensures.present (c.in_err-strictness.ensures.absent _ s.may) s.ahead in
    stops _ _ _ _ c.from_residual.ensures (λ x g. g) h

pub returns-clause-reads : goal.returns-clause-reads
returns-clause-reads c = reads_join _ _ _ _ _ _ c.in_ok-strictness.ensures.reads c.in_ok-resource.ensures.reads

pub returns-clause-strictness : goal.returns-clause-strictness
returns-clause-strictness c x rest m a e =
    let s = strictness_ahead _ _ x rest (λ e. false≢true (c.if-is_next_word.ensures.next.1 e)) m a in
    option_lacks strictness_leaves _ _ _ _ s.strictness _ (c.in_ok-strictness.ensures.absent _ s.may) (sym s.same_strictness ∙ e) s.ahead

pub returns-clause-resource : goal.returns-clause-resource
returns-clause-resource c x rest m a e =
    let s = strictness_ahead _ _ x rest (λ e. false≢true (c.if-is_next_word.ensures.next.1 e)) m a in
    let b1 = option_ahead strictness_leaves _ _ _ _ s.strictness _ c.in_ok-strictness.ensures.present (c.in_ok-strictness.ensures.absent _ s.may) s.ahead in
    option_lacks resource_leaves _ _ _ _ s.resource rest (c.in_ok-resource.ensures.absent rest (not_first_word (codes "resource") strictness_words rest m)) (sym s.same_resource ∙ e) b1
