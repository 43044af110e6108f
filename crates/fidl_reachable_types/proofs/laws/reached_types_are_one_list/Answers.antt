use Rattle.fidl_reachable_types.proofs.OneList.{one_list}
use Rattle.fidl_reachable_types.proofs.laws.reached_types_are_one_list.Goals as goal

pub returns : goal.returns
returns c = λ terms roots one other r s. one_list terms roots one other r s
