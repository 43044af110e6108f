-- How many structs and arrays stand inline in one another (docs/language.md, "Figures").
use Rattle.std.specs.Prelude.{ℕ, suc, ◌≡◌, List, Some, slice_get}
use Rattle.std.specs.List.{Contains}
use Rattle.fidl_wire.specs.Term.{Term, Fields, no_fields}
use Rattle.fidl_wire.specs.Term as ty
use Rattle.fidl_ir.specs.Members.{field_types}

-- from a term on, at least this many structs and arrays stand inline in one another: a name is
-- followed to its definition
pub data Nested (terms : List Term) : (count : ℕ) → Term → Type 0 where
  none : (t : Term) → Nested terms 0 t
  empty : Nested terms 1 (ty.struct no_fields)
  in_struct : (count : ℕ) (fs : Fields) (t : Term) → Contains (field_types fs) t
      → Nested terms count t → Nested terms (suc count) (ty.struct fs)
  in_array : (count : ℕ) (t : Term) (n : ℕ) → Nested terms count t
      → Nested terms (suc count) (ty.array t n)
  by_name : (count i : ℕ) (t : Term) → slice_get terms i ≡ Some t → Nested terms count t
      → Nested terms count (ty.named i)
