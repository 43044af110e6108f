use Rattle.fidl_wire.proofs.Stand.{all_from_stands, stands_from_all}
use Rattle.fidl_wire.proofs.laws.whole_messages_stand.Goals as goal

pub returns : goal.returns
returns c = λ m a e. (all_from_stands m a e, stands_from_all m a)
