use Rattle.fidl_wire.proofs.Stand.{carries_front, carries_back, carries_both}
use Rattle.fidl_wire.proofs.laws.joined_handles_stand.Goals as goal

pub returns : goal.returns
returns c = λ hs p a b. ((λ h. (carries_front hs p a b h, carries_back hs p a b h)), (λ h. carries_both hs p a b h.0 h.1))
