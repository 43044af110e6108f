use Rattle.fidl_wire.specs.Term as ty
use Rattle.fidl_equivalence.proofs.Levels.{alike_types, numbered_types}
use Rattle.fidl_table_format.specs.Terms.{declarations_of}
use Rattle.fidl_verify.proofs.Declared.{laid_out}
use Rattle.fidl_table_check.proofs.laws.entries_show_their_types.Goals as goal

pub returns : goal.returns
returns c = λ ds types bytes laid well entries number t at v.
    alike_types ds (declarations_of bytes) laid (laid_out bytes well) t (ty.named number) (numbered_types ds (declarations_of bytes) types entries.levels number t at) v
