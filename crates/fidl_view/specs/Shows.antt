-- Which value a view shows (docs/views.md, "Shows").
use Rattle.std.specs.Prelude.{ℕ, ◌≤◌, length}
use Rattle.fidl_wire.specs.Value.{Value}
use Rattle.fidl_wire.specs.Term.{Term, resolve}
use Rattle.fidl_wire.specs.Term as ty
use Rattle.fidl_wire.specs.Typed.{Typed}
use Rattle.fidl_wire.specs.Encoding.{encoding_of}
use Rattle.fidl_table_format.specs.Terms.{declarations_of}
use Rattle.fidl_decode_model.specs.Faults.{message_of}
use Rattle.fidl_decode_model.specs.Placed.{Placed}
use Rattle.fidl_decode_model.specs.Readable.{Readable}
use Rattle.fidl_decode_model.specs.Model.{Shown}

-- the type that an entry declares
abbrev pub type_of : Shown → (index : ℕ) → Term
type_of d index = resolve (declarations_of d.table).terms (ty.named index)

-- the value is one of the entry's type, and stands in the message at the place, with all below it
-- where the links say; it can be read there; and what it has out of line is no longer than the
-- message
pub record Shows (d : Shown) (index place : ℕ) (v : Value) : Type 0 where
  pub typed : Typed (declarations_of d.table) (ty.named index) v
  pub placed : Placed (declarations_of d.table) (message_of d.bytes d.handles) d.links
      (type_of d index) place v
  pub readable : Readable (declarations_of d.table) d.links (type_of d index) place v
  pub within : length (encoding_of (declarations_of d.table) (type_of d index) v).out
      ≤ length d.bytes

-- some value is shown
abbrev pub HasValue : Shown → (index place : ℕ) → Type 0
HasValue d index place = (v : Value) × Shows d index place v
