-- The written texts of values, in tables whose members can be told by their names.
use Rattle.std.specs.Prelude.{◌≡◌, ◌<◌, ◌≤◌, ℕ, List}
use Rattle.fidl_limits.specs.declared.limits.TheConstants.{MAX_DEPTH}
use Rattle.fidl_wire.specs.Term as ty
use Rattle.fidl_wire.specs.Value.{Value}
use Rattle.fidl_wire.specs.Typed.{Typed}
use Rattle.fidl_wire.specs.Depth.{Depth}
use Rattle.fidl_wire.specs.Text.{Text}
use Rattle.fidl_table_format.specs.Section.{header_of}
use Rattle.fidl_table_format.specs.Terms.{declarations_of, members_of}
use Rattle.fidl_spelling.specs.Readable.{AreNamesDistinct}

-- no two members of a table or union have one name
abbrev pub HasDistinctNames : (table : List ℕ) → Type 0
HasDistinctNames table = (index : ℕ) → index < (header_of table).entries
    → AreNamesDistinct (members_of table index)

-- the text is that of the value, which is one of the entry's type, of a depth within the limit
pub record IsWritten (table : List ℕ) (entry : ℕ) (text : List ℕ) (v : Value) : Type 0 where
  pub typed : Typed (declarations_of table) (ty.named entry) v
  pub depth : Depth (declarations_of table) (ty.named entry) v ≤ MAX_DEPTH
  pub written : text ≡ Text (declarations_of table) (ty.named entry) v
