use Rattle.fidl_wire.proofs.Stand.{stands_front, stands_back, stands_both}
use Rattle.fidl_wire.proofs.laws.joined_bytes_stand.Goals as goal

pub returns : goal.returns
returns c = λ m p a b. ((λ h. (stands_front m p a b h, stands_back m p a b h)), (λ h. stands_both m p a b h.0 h.1))
