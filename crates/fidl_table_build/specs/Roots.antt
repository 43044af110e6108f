-- The roots of a table, as the listing has them (docs/table.md, "Assembling").
use Rattle.std.specs.Prelude.{ℕ, ◌≡◌, List, Some, length, slice_get}
use Rattle.fidl_wire.specs.Term.{Term}
use Rattle.fidl_wire.specs.Term as ty
use Rattle.fidl_table_format.specs.Section.{header_of, root_at}
use Rattle.fidl_table_format.specs.Root.{root_name}

-- the entry of this number is that of a definition: the type in its place of the list is the
-- definition's
abbrev pub IsEntryOf : (types : List Term) → (definition entry : ℕ) → Type 0
IsEntryOf types definition entry = slice_get types entry ≡ Some (ty.named definition)

-- the root of this number has the name and the entry of a definition
pub record ShowsRoot (names : List (List ℕ)) (types : List Term) (bytes : List ℕ)
    (definition root : ℕ) : Type 0 where
  pub name : slice_get names definition ≡ Some (root_name bytes (header_of bytes) root)
  pub entry : IsEntryOf types definition (root_at bytes (header_of bytes) root).entry

-- the roots are these definitions, in this order, and no other
pub record ShowsRoots (names : List (List ℕ)) (types : List Term) (roots : List ℕ)
    (bytes : List ℕ) : Type 0 where
  pub count : (header_of bytes).roots ≡ length roots
  pub each : (k definition : ℕ) → slice_get roots k ≡ Some definition
      → ShowsRoot names types bytes definition k
