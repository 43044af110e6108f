-- The values of expressions (docs/language.md, "Values"): by recursion on the expression, with its
-- names unfolded. A name that leads back to itself has none.
use Rattle.std.specs.Prelude.{ℕ, ◌≡◌, ℤ, pos, neg_ℤ, Bool, true, false, List, [], ◌∷◌, Option, Some}
use Rattle.std.specs.Prelude.{None, is_some}
use Rattle.fidl_tree.specs.Leaf.{text_at}
use Rattle.fidl_tree.specs.Syntax.{Path, Value, bitwise_or, Operands, no_operands, next_operand}
use Rattle.fidl_tree.specs.Syntax.{Operand}
use Rattle.fidl_tree.specs.Syntax.{number_operand, string_operand, bool_operand, path_operand}
use Rattle.fidl_tree.specs.Syntax.{group_operand}
use Rattle.fidl_tree.specs.Views.{value_view}
use Rattle.fidl_tree.specs.declared.file.File.{File}
use Rattle.fidl_tree.specs.declared.value_member.ValueMember.{ValueMember}
use Rattle.fidl_tree.specs.declared.declaration.ConstDeclaration.{ConstDeclaration}
use Rattle.fidl_tree.specs.declared.type_constructor.ValuesLayout.{ValuesLayout}
use Rattle.fidl_named.specs.declared.place.DeclarationId.{DeclarationId}
use Rattle.fidl_named.specs.declared.meaning.Wanted.TheVariants as wanted
use Rattle.fidl_named.specs.declared.meaning.Predeclared.TheVariants as name
use Rattle.fidl_named.specs.declared.meaning.Meaning.{Meaning}
use Rattle.fidl_named.specs.declared.meaning.Meaning.TheVariants as meaning
use Rattle.fidl_named.specs.Meanings.{Means}
use Rattle.fidl_named.specs.Paths.{texts}
use Rattle.fidl_consts.specs.declared.const_type.NumberKind.{NumberKind}
use Rattle.fidl_consts.specs.declared.const_type.NumberKind.TheVariants.{Uint32}
use Rattle.fidl_consts.specs.declared.const_type.BitsOrEnum.TheVariants as layout
use Rattle.fidl_consts.specs.declared.const_type.ConstType.{ConstType}
use Rattle.fidl_consts.specs.declared.const_type.ConstType.TheVariants as ty
use Rattle.fidl_consts.specs.Literals.{number_of, string_of}
use Rattle.fidl_consts.specs.PlainValues.{PlainValue, a_truth, a_number, a_text, Fits, Suits}
use Rattle.fidl_consts.specs.PlainValues.{is_literal_of}
use Rattle.fidl_consts.specs.PlainValues.{joined, greatest}
use Rattle.fidl_consts.specs.Types.{IsConstAt, IsValuesAt, IsMemberOf, IsPropertyValues, TypeIs}
use Rattle.fidl_consts.specs.Types.{LayoutIs, Joins}

-- a number with or without a minus before it
abbrev pub signed_if : (minus : Bool) → ℕ → ℤ
signed_if false n = pos n
signed_if true n = neg_ℤ (pos n)

-- the operands of a value: the first, and those after it
abbrev pub first_operand : Value → Operand
first_operand (bitwise_or first rest) = first

abbrev pub operands_in : Operands → List Operand
operands_in no_operands = []
operands_in (next_operand e es) = e ∷ operands_in es

abbrev pub later_operands : Value → List Operand
later_operands (bitwise_or first rest) = operands_in rest

-- the value of a literal; a name and a value in parentheses are none
abbrev pub literal : File → Operand → Option PlainValue
literal f (number_operand minus word) =
    Some (a_number (signed_if (is_some minus) (number_of (text_at f.src.now word))))
literal f (string_operand word) = Some (a_text (string_of (text_at f.src.now word)))
literal f (bool_operand b word) = Some (a_truth b)
literal f (path_operand path) = None
literal f (group_operand left value right) = None

-- the name that an operand is
abbrev pub name_in : Operand → Option Path
name_in (path_operand path) = Some path
name_in _ = None

-- the value that an operand has in its parentheses
abbrev pub inside : Operand → Option Value
inside (group_operand left value right) = Some value
inside _ = None

-- a member's number may be given for another type than its own
abbrev pub is_member : Meaning → Bool
is_member (meaning.Member p i) = true
is_member (meaning.PropertyMember p n i) = true
is_member _ = false

-- what has a value of its own: the greatest bound, a constant, a member of bits or an enum
pub data HasValue (files : List File) : Meaning → Type 0 where
  maximum : HasValue files (meaning.Predeclared name.Max)
  constant : (p : DeclarationId) (f : File) (c : ConstDeclaration) → IsConstAt files p f c
      → HasValue files (meaning.Declared p)
  member : (p : DeclarationId) (f : File) (l : ValuesLayout) (i : ℕ) (m : ValueMember)
      → IsValuesAt files p f l → IsMemberOf l i m
      → HasValue files (meaning.Member p i)

mutual
  -- an expression has this value where this type is wanted: its only operand's or, where values of
  -- the type are joined, what its operands' values join to
  pub data ValueIs (files : List File) : File → ConstType → Value → PlainValue → Type 0 where
    alone : (f : File) (t : ConstType) (v : Value) (k : PlainValue) → later_operands v ≡ []
        → OperandIs files f t (first_operand v) k → ValueIs files f t v k
    several : (f : File) (t : ConstType) (v : Value) (first all : PlainValue) → Joins files t
        → OperandIs files f t (first_operand v) first
        → OrOperandsAre files f t first (later_operands v) all → Fits t all
        → ValueIs files f t v all

  -- what a value is joined to by the operands after it
  pub data OrOperandsAre (files : List File) : File → ConstType → (before : PlainValue)
      → List Operand
      → (all : PlainValue) → Type 0 where
    none : (f : File) (t : ConstType) (k : PlainValue) → OrOperandsAre files f t k [] k
    one_more : (f : File) (t : ConstType) (before next all : PlainValue) (e : Operand)
        (es : List Operand) → OperandIs files f t e next
        → OrOperandsAre files f t (joined before next) es all
        → OrOperandsAre files f t before (e ∷ es) all

  -- an operand has this value where this type is wanted: a literal of the type that fits it, the
  -- value in parentheses, or what a name gives
  pub data OperandIs (files : List File) : File → ConstType → Operand → PlainValue → Type 0 where
    literal_fits : (f : File) (t : ConstType) (e : Operand) (k : PlainValue) → literal f e ≡ Some k
        → is_literal_of t k ≡ true → Fits t k → OperandIs files f t e k
    group : (f : File) (t : ConstType) (e : Operand) (v : Value) (k : PlainValue) → inside e
        ≡ Some v
        → ValueIs files f t v k → OperandIs files f t e k
    named : (f : File) (t : ConstType) (e : Operand) (path : Path) (m : Meaning) (k : PlainValue)
        → name_in e ≡ Some path → Means files f wanted.Value (texts f.src.now path) m
        → Gives files m t k → OperandIs files f t e k

  -- a meaning gives this value where this type is wanted: what it offers may be given there, and
  -- fits
  pub data Gives (files : List File) : Meaning → ConstType → PlainValue → Type 0 where
    offered : (m : Meaning) (own t : ConstType) (k : PlainValue) → Offers files m own k
        → Suits (is_member m) own t → Fits t k → Gives files m t k

  -- a meaning has this value, of this type of its own: a constant that of its expression at its
  -- type, a member that of its expression at the underlying type
  pub data Offers (files : List File) : Meaning → ConstType → PlainValue → Type 0 where
    maximum : Offers files (meaning.Predeclared name.Max) (ty.Number Uint32) (a_number greatest)
    constant : (p : DeclarationId) (f : File) (c : ConstDeclaration) (own : ConstType)
        (k : PlainValue)
        → IsConstAt files p f c → TypeIs files f c.constructor (Some own)
        → ValueIs files f own (value_view c.value) k
        → Offers files (meaning.Declared p) own k
    member : (p : DeclarationId) (f : File) (l : ValuesLayout) (kind : NumberKind) (i : ℕ)
        (m : ValueMember) (k : PlainValue) → IsValuesAt files p f l → LayoutIs files f l (Some kind)
        → IsMemberOf l i m
        → ValueIs files f (ty.Number kind) (value_view m.value) k
        → Offers files (meaning.Member p i) (ty.Values (layout.Declared p)) k
    property_member : (p : DeclarationId) (n : ℕ) (f : File) (l : ValuesLayout) (kind : NumberKind)
        (i : ℕ) (m : ValueMember) (k : PlainValue) → IsPropertyValues files p n f l
        → LayoutIs files f l (Some kind)
        → IsMemberOf l i m
        → ValueIs files f (ty.Number kind) (value_view m.value) k
        → Offers files (meaning.PropertyMember p n i) (ty.Values (layout.Property p n)) k

-- what a name of a file gives where this type is wanted
pub record NameGives (files : List File) (f : File) (path : Path) (t : ConstType) (k : PlainValue)
    : Type
    0 where
  pub meaning : Meaning
  pub means : Means files f wanted.Value (texts f.src.now path) meaning
  pub gives : Gives files meaning t k
