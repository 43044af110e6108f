use Rattle.std.proofs.lemmas.Bool.{false≢true}
use Rattle.fidl_parse.proofs.Protocols.{name_ahead, strictness_may}
use Rattle.fidl_tree.specs.Keyword.{strictness_leaves}
use Rattle.fidl_parse.proofs.Keywords.{option_goes}
use Rattle.fidl_parse.proofs.parser.Parser.method_strictness.Goals as goal

pub returns-then-is_second-clause-complete : goal.returns-then-is_second-clause-complete
returns-then-is_second-clause-complete c x rest m a =
    name_ahead _ _ x rest (c.is_second.ensures.0 c.if-is_second.true) m a

pub returns-clause-complete : goal.returns-clause-complete
returns-clause-complete c x rest m a =
    option_goes strictness_leaves _ _ _ _ x rest c.strictness.ensures.present (λ b. c.strictness.ensures.absent rest (strictness_may _ _ rest (λ e. false≢true (c.if-is_second.ensures.1 e)) m b) b) a
