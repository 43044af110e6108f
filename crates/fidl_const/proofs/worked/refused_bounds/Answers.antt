use Rattle.std.proofs.Common.{true≢false, sym, ◌∙◌}
use Rattle.fidl_const.proofs.worked.refused_bounds.Goals as goal

pub returns-clause-seen : goal.returns-clause-seen
returns-clause-seen c = λ s v fault no_word h. (no_word, h)

pub returns-clause-other : goal.returns-clause-other
returns-clause-other c = λ s v fault word h. true≢false (sym word ∙ h.0)
