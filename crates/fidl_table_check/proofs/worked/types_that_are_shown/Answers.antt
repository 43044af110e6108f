use Rattle.std.proofs.Common.{[], ◌∷◌, refl, true}
use Rattle.fidl_wire.specs.Value as value
use Rattle.fidl_wire.specs.Term as ty
use Rattle.fidl_wire.specs.Figure.{no_declarations}
use Rattle.fidl_equivalence.proofs.Levels.{alike_types, numbered_types}
use Rattle.fidl_table_format.specs.Terms.{declarations_of}
use Rattle.fidl_table_check.specs.Samples.{one_entry}
use Rattle.fidl_table_check.proofs.Small.{one_bool}
use Rattle.fidl_table_check.proofs.worked.types_that_are_shown.Goals as goal

pub returns-clause-a_bool : goal.returns-clause-a_bool
returns-clause-a_bool c = λ number t at v.
    let es = declarations_of (one_entry 1) in
    alike_types no_declarations es refl refl t (ty.named number) (numbered_types no_declarations es (ty.bool ∷ []) one_bool number t at) v

pub returns-clause-other : goal.returns-clause-other
returns-clause-other c = λ h. (h 0 ty.bool refl (value.bool true)).typed.0 tt
