-- What is refused as a value, and the places of values and types in a source (docs/language.md,
-- "Values").
use Rattle.std.specs.Prelude.{ℕ, ◌≡◌, ◌-◌, true, List, length, Option, Some, None, slice_get}
use Rattle.std.specs.List.{Contains}
use Rattle.fidl_span.specs.declared.words.Span.{Span}
use Rattle.fidl_tree.specs.declared.file.File.{File}
use Rattle.fidl_tree.specs.Syntax.{Path, Value, Operand, number_operand, string_operand}
use Rattle.fidl_tree.specs.Syntax.{bool_operand}
use Rattle.fidl_tree.specs.Syntax.{path_operand, group_operand, TypeUse, named_type, layout_type}
use Rattle.fidl_tree.specs.Syntax.{Layout}
use Rattle.fidl_tree.specs.Syntax.{values_layout, struct_layout, table_layout, union_layout}
use Rattle.fidl_named.specs.declared.place.Place.{Place}
use Rattle.fidl_named.specs.declared.meaning.Wanted.TheVariants as wanted
use Rattle.fidl_named.specs.declared.meaning.Meaning.{Meaning}
use Rattle.fidl_named.specs.Meanings.{Means}
use Rattle.fidl_named.specs.Paths.{texts}
use Rattle.fidl_named.specs.Paths.{path_place}
use Rattle.fidl_consts.specs.declared.fault.ConstFault.{ConstFault}
use Rattle.fidl_consts.specs.declared.fault.ConstFault.TheVariants.{OutOfRange, WrongKind, NotBits}
use Rattle.fidl_consts.specs.declared.const_type.ConstType.{ConstType}
use Rattle.fidl_consts.specs.PlainValues.{PlainValue, Fits, Suits, is_literal_of}
use Rattle.fidl_consts.specs.Types.{Joins}
use Rattle.fidl_consts.specs.Values.{first_operand, later_operands, literal, name_in, inside}
use Rattle.fidl_consts.specs.Values.{is_member}
use Rattle.fidl_consts.specs.Values.{HasValue, OrOperandsAre, OperandIs, Offers}

-- Places in a source.

-- an operand, with a minus before it and with its parentheses
abbrev from_minus : Option Span → Span → Span
from_minus None s = s
from_minus (Some minus) s = record { from = minus.from; to = s.to }

abbrev pub operand_span : Operand → Span
operand_span (number_operand minus word) = from_minus minus word
operand_span (string_operand word) = word
operand_span (bool_operand b word) = word
operand_span (path_operand path) = path_place path
operand_span (group_operand left value right) = record { from = left.from; to = right.to }

-- from a first operand to the end of another, if there is one
abbrev pub to_end : Span → Option Operand → Span
to_end first None = first
to_end first (Some e) = record { from = first.from; to = (operand_span e).to }

-- a value: from its first operand to its last
abbrev pub value_span : Value → Span
value_span v = to_end (operand_span (first_operand v))
    (slice_get (later_operands v) (length (later_operands v) - 1))

-- the keyword of a layout
abbrev pub layout_span : Layout → Span
layout_span (values_layout kind strict keyword u members) = keyword
layout_span (struct_layout is_resource keyword ms) = keyword
layout_span (table_layout is_resource keyword ms) = keyword
layout_span (union_layout strict is_resource keyword ms) = keyword

-- a type: its name, or its layout's keyword
abbrev pub type_span : TypeUse → Span
type_span (named_type path _ constraints) = path_place path
type_span (layout_type attributes layout constraints) = layout_span layout

abbrev pub at : (number : ℕ) → Span → Place
at n span = record { file = n; span = span }

-- Refusals of values.

-- what a meaning gives is refused where a type is wanted: it doesn't suit, or doesn't fit
pub data Misfits (files : List File) (m : Meaning) (t : ConstType) (place : Place) : ConstFault
    → Type 0 where
  kind : (own : ConstType) (k : PlainValue) → Offers files m own k → (Suits (is_member m) own t → ⊥)
      → Misfits files m t place (WrongKind place)
  range : (own : ConstType) (k : PlainValue) → Offers files m own k → Suits (is_member m) own t
      → (Fits t k → ⊥) → Misfits files m t place (OutOfRange place)

-- a name in a value is refused where a type is wanted
pub data NameFails (files : List File) (f : File) (number : ℕ) (t : ConstType) (path : Path)
    (fault : ConstFault) : Type 0 where
  nothing : ((m : Meaning) → Means files f wanted.Value (texts f.src.now path) m
      → HasValue files m → ⊥) → fault ≡ WrongKind (at number (path_place path))
      → NameFails files f number t path fault
  misfit : (m : Meaning) → Means files f wanted.Value (texts f.src.now path) m
      → Misfits files m t (at number (path_place path)) fault
      → NameFails files f number t path fault

-- a literal is refused where a type is wanted: one of another type, or one that doesn't fit
pub data LiteralFails (t : ConstType) (k : PlainValue) (place : Place) : ConstFault → Type 0 where
  kind : (is_literal_of t k ≡ true → ⊥) → LiteralFails t k place (WrongKind place)
  range : is_literal_of t k ≡ true → (Fits t k → ⊥) → LiteralFails t k place (OutOfRange place)

mutual
  -- an expression is refused where this type is wanted: values of the type aren't joined, what they
  -- join to doesn't fit, or an operand is refused
  pub data ValueFails (files : List File) (f : File) (number : ℕ) (t : ConstType)
      (fault : ConstFault) : Value → Type 0 where
    not_bits : (v : Value) (e : Operand) → Contains (later_operands v) e → (Joins files t → ⊥)
        → fault ≡ NotBits (at number (value_span v)) → ValueFails files f number t fault v
    too_great : (v : Value) (first all : PlainValue) → OperandIs files f t (first_operand v) first
        → OrOperandsAre files f t first (later_operands v) all → (Fits t all → ⊥)
        → fault ≡ OutOfRange (at number (value_span v))
        → ValueFails files f number t fault v
    first : (v : Value) → OperandFails files f number t fault (first_operand v)
        → ValueFails files f number t fault v
    or_operand : (v : Value) (e : Operand) → Contains (later_operands v) e
        → OperandFails files f number t fault e
        → ValueFails files f number t fault v

  -- an operand is refused: a literal of another type, or one that doesn't fit; what stands in its
  -- parentheses; or a name
  pub data OperandFails (files : List File) (f : File) (number : ℕ) (t : ConstType)
      (fault : ConstFault) : Operand → Type 0 where
    literal_kind : (e : Operand) (k : PlainValue) → literal f e ≡ Some k
        → (is_literal_of t k ≡ true → ⊥)
        → fault ≡ WrongKind (at number (operand_span e)) → OperandFails files f number t fault e
    literal_range : (e : Operand) (k : PlainValue) → literal f e ≡ Some k → is_literal_of t k ≡ true
        → (Fits t k → ⊥) → fault ≡ OutOfRange (at number (operand_span e))
        → OperandFails files f number t fault e
    group : (e : Operand) (v : Value) → inside e ≡ Some v → ValueFails files f number t fault v
        → OperandFails files f number t fault e
    named : (e : Operand) (path : Path) → name_in e ≡ Some path
        → NameFails files f number t path fault
        → OperandFails files f number t fault e

-- one of the operands after the first is refused
pub record OrOperandsFail (files : List File) (f : File) (number : ℕ) (t : ConstType)
    (es : List Operand) (fault : ConstFault) : Type 0 where
  pub or_operand : Operand
  pub among : Contains es or_operand
  pub fails : OperandFails files f number t fault or_operand
