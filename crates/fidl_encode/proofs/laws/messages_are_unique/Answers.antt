use Rattle.std.proofs.Common.{sym, ap, ◌∙◌}
use Rattle.fidl_encode.proofs.laws.messages_are_unique.Goals as goal

pub returns : goal.returns
returns c ds t v bytes again handles beside h k = (ap (λ m. m.0) (sym k.message ∙ h.message), ap (λ m. m.1) (sym k.message ∙ h.message))
