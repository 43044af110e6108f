-- What the bench answers, and what each failure says of the table, the root and the message.
use Rattle.std.specs.Prelude.{ℕ, List, []}
use Rattle.fidl_wire.specs.Value.{Value}
use Rattle.fidl_wire.specs.Term.{Term}
use Rattle.fidl_wire.specs.Term as ty
use Rattle.fidl_wire.specs.Figure.{Declarations}
use Rattle.fidl_wire.specs.Message.{Encodes, IsEncoding}
use Rattle.fidl_table_format.specs.Section.{header_of}
use Rattle.fidl_table_format.specs.Terms.{declarations_of}
use Rattle.fidl_table_format.specs.Root.{IsRootEntry, HasNoRoot}
use Rattle.fidl_table_format.specs.WellFormed.{WellFormed}
use Rattle.fidl_bench.specs.declared.failure.Failure.{Failure}
use Rattle.fidl_bench.specs.declared.failure.Failure.TheVariants.{BadTable, NoRoot, NoMemory}
use Rattle.fidl_bench.specs.declared.failure.Failure.TheVariants.{Refused, OtherShape, OtherSum, NoRoom}

-- the failure's number
abbrev pub number_of : Failure → ℕ
number_of BadTable = 1
number_of NoRoot = 2
number_of NoMemory = 3
number_of Refused = 4
number_of OtherShape = 5
number_of OtherSum = 6
number_of NoRoom = 7

-- the table is accepted, and its first root of this name has this entry
pub record IsRootOf (table root : List ℕ) (entry : ℕ) : Type 0 where
  pub well_formed : WellFormed table
  pub root_entry : IsRootEntry table (header_of table) root entry

-- the table is accepted, and has a root of this name
abbrev pub HasRoot : (table root : List ℕ) → Type 0
HasRoot table root = (entry : ℕ) × IsRootOf table root entry

-- the table is accepted, and has no root of this name
pub record LacksRoot (table root : List ℕ) : Type 0 where
  pub well_formed : WellFormed table
  pub none : HasNoRoot table (header_of table) root

-- the message, without handles, encodes the value, which is one of the root's type
pub record IsValueOf (table root message : List ℕ) (v : Value) : Type 0 where
  pub entry : ℕ
  pub of_root : IsRootOf table root entry
  pub encodes : Encodes (declarations_of table) (ty.named entry) v message []

-- the message encodes a value of the root's type
abbrev pub IsMessageOf : (table root message : List ℕ) → Type 0
IsMessageOf table root message = (v : Value) × IsValueOf table root message v

-- what a failure says
abbrev pub IsWhy : (table root message : List ℕ) → Failure → Type 0
IsWhy table root message BadTable = ¬ WellFormed table
IsWhy table root message NoRoot = LacksRoot table root
IsWhy table root message NoMemory = HasRoot table root
IsWhy table root message Refused = HasRoot table root × ¬ IsMessageOf table root message
IsWhy table root message OtherShape = IsMessageOf table root message
IsWhy table root message OtherSum = IsMessageOf table root message
IsWhy table root message NoRoom = IsMessageOf table root message

-- what a failure to decode a message, and to read it or write its value, says where the table has
-- the type
abbrev pub IsWhyUnread : Declarations → Term → (message : List ℕ) → Failure → Type 0
IsWhyUnread ds t message NoMemory = Unit {0}
IsWhyUnread ds t message NoRoom = IsEncoding ds t message []
IsWhyUnread ds t message Refused = ¬ IsEncoding ds t message []
IsWhyUnread ds t message OtherShape = IsEncoding ds t message []
IsWhyUnread ds t message OtherSum = IsEncoding ds t message []
IsWhyUnread ds t message _ = ⊥
