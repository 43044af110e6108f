use Rattle.fidl_spelling.proofs.Opening.{few_in_value}
use Rattle.fidl_spelling.proofs.laws.texts_open_few_brackets.Goals as goal

pub returns : goal.returns
returns c ds laid named nested t g n v h deep source s =
    (s.0, (s.1.0, s.1.1, few_in_value ds laid named nested t g n v h deep s.1.0 s.1.2, s.1.2))
