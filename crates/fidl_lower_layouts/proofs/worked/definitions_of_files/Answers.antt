use Rattle.std.proofs.Common.{refl}
use Rattle.fidl_lower_layouts.proofs.worked.definitions_of_files.Goals as goal

pub returns-clause-inside : goal.returns-clause-inside
returns-clause-inside c = λ f path name. record { file = f; at = refl; is = refl }
