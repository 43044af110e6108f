-- The text of the value that a message encodes.
use Rattle.std.specs.Prelude.{◌≡◌, ℕ, List, [], take}
use Rattle.fidl_wire.specs.Value.{Value}
use Rattle.fidl_wire.specs.Term.{Term}
use Rattle.fidl_wire.specs.Term as ty
use Rattle.fidl_wire.specs.Figure.{Declarations}
use Rattle.fidl_wire.specs.Message.{Encodes}
use Rattle.fidl_wire.specs.Text.{Text}
use Rattle.fidl_table_format.specs.Terms.{declarations_of}
use Rattle.fidl_bench.specs.declared.room.Room.{Room}
use Rattle.fidl_bench.specs.Failures.{IsRootOf}

-- what is written to a room
abbrev pub contents_of : Room → List ℕ
contents_of room = take room.taken room.bytes.items

-- it is the text of a value that the message, without handles, encodes
pub record IsText (ds : Declarations) (t : Term) (message text : List ℕ) : Type 0 where
  pub value : Value
  pub encodes : Encodes ds t value message []
  pub is_text : text ≡ Text ds t value

-- the same of a value of the root's type
pub record IsTextOf (table root message text : List ℕ) : Type 0 where
  pub entry : ℕ
  pub of_root : IsRootOf table root entry
  pub text_of : IsText (declarations_of table) (ty.named entry) message text

-- such a text stands at the front
abbrev pub BeginsWithTextOf : (table root message bytes : List ℕ) → Type 0
BeginsWithTextOf table root message bytes = (count : ℕ) × IsTextOf table root message (take count bytes)
