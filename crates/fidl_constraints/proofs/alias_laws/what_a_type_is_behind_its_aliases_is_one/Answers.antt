use Rattle.fidl_constraints.proofs.OneBehind.{one_behind}
use Rattle.fidl_constraints.proofs.alias_laws.what_a_type_is_behind_its_aliases_is_one.Goals as goal

pub returns : goal.returns
returns c = one_behind
