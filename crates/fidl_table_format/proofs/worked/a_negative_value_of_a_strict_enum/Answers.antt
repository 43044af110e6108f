use Rattle.std.proofs.Common.{refl}
use Rattle.fidl_table_format.specs.Terms.{span}
use Rattle.fidl_table_format.proofs.worked.a_negative_value_of_a_strict_enum.Goals as goal

pub returns : goal.returns
unfolding span
returns c = refl
