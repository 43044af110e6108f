use Rattle.std.proofs.Common.{◌≡◌, refl}
use Rattle.std.specs.declared.cmp.Ordering.TheVariants.{Less, Equal, Greater}
use Rattle.fidl_table_format.proofs.worked.methods.names_of_protocols.Goals as goal

pub returns-clause-twice : goal.returns-clause-twice
returns-clause-twice c = λ rises. let never : Equal ≡ Less = rises 0 refl in cc

pub returns-clause-falling : goal.returns-clause-falling
returns-clause-falling c = λ rises. let never : Greater ≡ Less = rises 0 refl in cc
