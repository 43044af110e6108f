use Rattle.std.proofs.Common.{[], ◌∷◌, refl}
use Rattle.fidl_wire.specs.Term.{no_fields}
use Rattle.fidl_wire.specs.Term as ty
use Rattle.fidl_type_shape.specs.Nesting.{none, empty, in_array, by_name}
use Rattle.fidl_type_shape.specs.Samples.{bytes}
use Rattle.fidl_type_shape.proofs.Chains.{around_one}
use Rattle.fidl_type_shape.proofs.worked.structs_in_one_another.Goals as goal

pub returns-clause-by_a_name : goal.returns-clause-by_a_name
returns-clause-by_a_name c = around_one (ty.struct no_fields ∷ []) 1 (ty.named 0) (by_name 1 0 (ty.struct no_fields) refl empty)

pub returns-clause-through_an_array : goal.returns-clause-through_an_array
returns-clause-through_an_array c = around_one [] 1 (bytes 3) (in_array 0 (ty.number ty.uint8) 3 (none (ty.number ty.uint8)))
