use Rattle.std.proofs.Common.{◌∙◌, sym, true≢false}
use Rattle.fidl_method_rules.proofs.worked.protocols_and_their_methods.Goals as goal

pub returns-clause-refused : goal.returns-clause-refused
returns-clause-refused c = λ f p member m is flexible h. let holds = h.0 m is in true≢false (sym holds.stands ∙ flexible)
