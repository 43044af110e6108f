use Rattle.std.proofs.Common.{◌≡◌, ℕ, ◌<◌, map, slice_get, Some}
use Rattle.fidl_wire.specs.Term.{Term, resolve}
use Rattle.fidl_equivalence.specs.Alike.{Alike, IsNumbered}
use Rattle.fidl_ir.specs.Terms.{definitions_view}
use Rattle.fidl_reachable_types.specs.Growing.{reference_view}
use Rattle.fidl_table_format.specs.Section.{header_of, entry_at}
use Rattle.fidl_table_format.specs.Terms.{term_of}
use Rattle.fidl_table_check.proofs.entries.entries_are.Given as goal

-- the entries so far are their types, one level deep
abbrev pub invariant-loop-number : goal.invariant-loop-number
invariant-loop-number l = (k : ℕ) (t : Term) → k < l.number → slice_get (map reference_view l.types) k ≡ Some t
    → Alike (λ t u. IsNumbered (map reference_view l.types) t u) (resolve (definitions_view l.definitions) t) (term_of l.table (header_of l.table) (entry_at l.table k))
