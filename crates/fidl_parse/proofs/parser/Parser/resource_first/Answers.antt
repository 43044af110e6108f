use Rattle.std.proofs.Common.{codes, sym, ◌∙◌}
use Rattle.fidl_parse.specs.FollowSets.{strictness_words}
use Rattle.fidl_tree.specs.Keyword.{strictness_leaves}
use Rattle.fidl_parse.proofs.Keywords.{resource_ahead, option_ahead, option_stops, option_absent}
use Rattle.fidl_parse.proofs.Words.{not_word_of}
use Rattle.fidl_parse.proofs.Stops.{stops}
use Rattle.fidl_parse.proofs.parser.Parser.resource_first.Goals as goal

pub returns-in_err-keyword-clause-complete : goal.returns-in_err-keyword-clause-complete
returns-in_err-keyword-clause-complete c i x rest m a =
    let l = resource_ahead _ _ x rest i m a in
    let h = c.in_err-keyword.ensures.complete l.word _ tt l.ahead in
    stops _ _ _ _ c.from_residual.ensures (λ x g. g) h

pub returns-in_err-strictness-clause-complete : goal.returns-in_err-strictness-clause-complete
returns-in_err-strictness-clause-complete c i x rest m a =
    let l = resource_ahead _ _ x rest i m a in
    let b1 = c.in_ok-keyword.ensures.complete l.word _ tt l.ahead in
    let n = not_word_of (codes "resource") strictness_words rest m in
    let h = option_stops strictness_leaves _ _ _ _ l.strictness rest c.in_err-strictness.ensures.present (c.in_err-strictness.ensures.absent rest n) b1 in
    stops _ _ _ _ c.from_residual-in_err-strictness.ensures (λ x g. g) h

pub returns-in-Some-clause-complete : goal.returns-in-Some-clause-complete
returns-in-Some-clause-complete c i x rest m a =
    let l = resource_ahead _ _ x rest i m a in
    let b1 = c.in_ok-keyword.ensures.complete l.word _ tt l.ahead in
    let n = not_word_of (codes "resource") strictness_words rest m in
    option_ahead strictness_leaves _ _ _ _ l.strictness rest c.in_ok-strictness.ensures.present (c.in_ok-strictness.ensures.absent rest n) b1

pub returns-in-None-clause-complete : goal.returns-in-None-clause-complete
returns-in-None-clause-complete c i x rest m a =
    let l = resource_ahead _ _ x rest i m a in
    let b1 = c.in_ok-keyword.ensures.complete l.word _ tt l.ahead in
    let n = not_word_of (codes "resource") strictness_words rest m in
    option_ahead strictness_leaves _ _ _ _ l.strictness rest c.in_ok-strictness.ensures.present (c.in_ok-strictness.ensures.absent rest n) b1

pub returns-in-Some-clause-strictness : goal.returns-in-Some-clause-strictness
returns-in-Some-clause-strictness c i x rest m a e =
    let l = resource_ahead _ _ x rest i m a in
    let b1 = c.in_ok-keyword.ensures.complete l.word _ tt l.ahead in
    let n = not_word_of (codes "resource") strictness_words rest m in
    let none = (c.in_ok-strictness.ensures.absent rest n (option_absent strictness_leaves _ _ l.strictness rest (sym l.same ∙ e) b1)).0 in
    let some = c.in-Some.is in
    cc
