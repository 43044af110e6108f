use Rattle.std.proofs.Common.{◌≡◌, ℕ, ◌<◌, map, slice_get, Some}
use Rattle.fidl_wire.specs.Term as ty
use Rattle.fidl_reachable_types.specs.Growing.{reference_view}
use Rattle.fidl_table_check.specs.Numbered.{entry_name}
use Rattle.fidl_table_check.proofs.names.names_are.Given as goal

-- the entries so far have the names of their definitions
abbrev pub invariant-loop-number : goal.invariant-loop-number
invariant-loop-number l = (number i : ℕ) → number < l.number → slice_get (map reference_view l.types) number ≡ Some (ty.named i)
    → slice_get (map (λ name. name.items) l.names) i ≡ Some (entry_name l.table number)
