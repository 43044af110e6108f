-- The values that texts spell, and what each failure says of a text.
use Rattle.std.specs.Prelude.{ℕ, List}
use Rattle.fidl_wire.specs.Value.{Value}
use Rattle.fidl_wire.specs.Term.{Term}
use Rattle.fidl_wire.specs.Term as ty
use Rattle.fidl_wire.specs.Figure.{Declarations}
use Rattle.fidl_spelling.specs.Spells.{SpellsWithin}
use Rattle.fidl_table_format.specs.Terms.{declarations_of}
use Rattle.fidl_table_format.specs.WellFormed.{WellFormed}
use Rattle.fidl_bench.specs.declared.failure.Failure.{Failure}
use Rattle.fidl_bench.specs.declared.failure.Failure.TheVariants.{BadTable, NoRoot, NoMemory}
use Rattle.fidl_bench.specs.declared.failure.Failure.TheVariants.{Refused}
use Rattle.fidl_bench.specs.Failures.{IsRootOf, HasRoot, LacksRoot}

-- the text spells some value of the type
abbrev pub IsSpelled : Declarations → Term → (text : List ℕ) → Type 0
IsSpelled ds t text = (v : Value) × SpellsWithin ds t text v

-- what a failure to read a text says where the table has the type
abbrev pub IsWhyUnspelled : Declarations → Term → (text : List ℕ) → Failure → Type 0
IsWhyUnspelled ds t text NoMemory = Unit {0}
IsWhyUnspelled ds t text Refused = ¬ IsSpelled ds t text
IsWhyUnspelled ds t text _ = ⊥

-- the text spells some value of the root's type
pub record SpellsOneOf (table root text : List ℕ) : Type 0 where
  pub entry : ℕ
  pub of_root : IsRootOf table root entry
  pub spelled : IsSpelled (declarations_of table) (ty.named entry) text

-- what a failure to read a text says
abbrev pub IsWhyNone : (table root text : List ℕ) → Failure → Type 0
IsWhyNone table root text BadTable = ¬ WellFormed table
IsWhyNone table root text NoRoot = LacksRoot table root
IsWhyNone table root text NoMemory = HasRoot table root
IsWhyNone table root text Refused = HasRoot table root × ¬ SpellsOneOf table root text
IsWhyNone table root text _ = ⊥
