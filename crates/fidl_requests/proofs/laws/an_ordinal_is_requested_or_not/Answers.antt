use Rattle.fidl_requests.proofs.Numbered.{never_both, unrequested}
use Rattle.fidl_requests.proofs.laws.an_ordinal_is_requested_or_not.Goals as goal

pub returns : goal.returns
returns c = λ p is ordinal. (λ none number some. never_both p is ordinal number none some, unrequested p ordinal)
