-- Constants' values, and the types of constants (docs/language.md, "Types of constants").
use Rattle.std.specs.Prelude.{ℕ, ◌≡◌, ℤ, pos, Bool, true, false, List, length, Option, Some, None}
use Rattle.std.specs.Prelude.{bit_or, FitsSigned}
use Rattle.std.specs.Int.{w8, w16, w32, w64, FitsUnsigned}
use Rattle.fidl_named.specs.declared.meaning.Predeclared.{Predeclared}
use Rattle.fidl_named.specs.declared.meaning.Predeclared.TheVariants as name
use Rattle.fidl_consts.specs.declared.const_type.NumberKind.{NumberKind}
use Rattle.fidl_consts.specs.declared.const_type.NumberKind.TheVariants.{Int8, Int16, Int32, Int64}
use Rattle.fidl_consts.specs.declared.const_type.NumberKind.TheVariants.{Uint8, Uint16, Uint32}
use Rattle.fidl_consts.specs.declared.const_type.NumberKind.TheVariants.{Uint64}
use Rattle.fidl_consts.specs.declared.const_type.ConstType.{ConstType}
use Rattle.fidl_consts.specs.declared.const_type.ConstType.TheVariants as ty
use Rattle.fidl_consts.specs.declared.const_value.ConstValue.{ConstValue}
use Rattle.fidl_consts.specs.declared.const_value.ConstValue.TheVariants as code

-- a value: true or false, a whole number (of bits and enums too), or the bytes of a string
pub data PlainValue : Type 0 where
  a_truth : Bool → PlainValue
  a_number : ℤ → PlainValue
  a_text : List ℕ → PlainValue

-- a value as the code has it
abbrev pub seen : ConstValue → PlainValue
seen (code.Bool b) = a_truth b
seen (code.Number z) = a_number z
seen (code.Text bytes) = a_text bytes.items

-- a whole number's type has this number
abbrev pub InRange : NumberKind → ℤ → Type 0
InRange Int8 z = FitsSigned w8 z
InRange Int16 z = FitsSigned w16 z
InRange Int32 z = FitsSigned w32 z
InRange Int64 z = FitsSigned w64 z
InRange Uint8 z = FitsUnsigned w8 z
InRange Uint16 z = FitsUnsigned w16 z
InRange Uint32 z = FitsUnsigned w32 z
InRange Uint64 z = FitsUnsigned w64 z

abbrev pub is_unsigned : NumberKind → Bool
is_unsigned Uint8 = true
is_unsigned Uint16 = true
is_unsigned Uint32 = true
is_unsigned Uint64 = true
is_unsigned _ = false

-- a value is one of a type, and a number in its range. Bits and enums have numbers
abbrev pub Fits : ConstType → PlainValue → Type 0
Fits ty.Bool (a_truth b) = Unit {0}
Fits (ty.Number kind) (a_number z) = InRange kind z
Fits ty.String (a_text bytes) = Unit {0}
Fits (ty.Values values) (a_number z) = Unit {0}
Fits _ _ = ⊥

-- literals of a type: `true` and `false`, numbers, strings. Bits and enums have none
abbrev pub is_literal_of : ConstType → PlainValue → Bool
is_literal_of ty.Bool (a_truth b) = true
is_literal_of (ty.Number kind) (a_number z) = true
is_literal_of ty.String (a_text bytes) = true
is_literal_of _ _ = false

-- a named value of one type may be given where a value of another is wanted: of that very type, a
-- number for a number, and the number of a member for a number
pub data Suits (is_member : Bool) : (own wanted : ConstType) → Type 0 where
  same : (t : ConstType) → Suits is_member t t
  numbers : (one other : NumberKind) → Suits is_member (ty.Number one) (ty.Number other)
  member : (values : _) (kind : NumberKind) → is_member ≡ true
      → Suits is_member (ty.Values values) (ty.Number kind)

-- the type of constants that a predeclared name is
abbrev pub predeclared_type : Predeclared → Option ConstType
predeclared_type name.Bool = Some ty.Bool
predeclared_type name.Int8 = Some (ty.Number Int8)
predeclared_type name.Int16 = Some (ty.Number Int16)
predeclared_type name.Int32 = Some (ty.Number Int32)
predeclared_type name.Int64 = Some (ty.Number Int64)
predeclared_type name.Uint8 = Some (ty.Number Uint8)
predeclared_type name.Uint16 = Some (ty.Number Uint16)
predeclared_type name.Uint32 = Some (ty.Number Uint32)
predeclared_type name.Uint64 = Some (ty.Number Uint64)
predeclared_type name.Byte = Some (ty.Number Uint8)
predeclared_type name.String = Some ty.String
predeclared_type _ = None

-- numbers that are joined by `|`: from 0 on. Nothing else is joined
abbrev pub joined : PlainValue → PlainValue → PlainValue
joined (a_number (pos a)) (a_number (pos b)) = a_number (pos (bit_or a b))
joined a _ = a

-- how many bytes a string has; nothing else has any
abbrev pub text_length : PlainValue → ℕ
text_length (a_text bytes) = length bytes
text_length _ = 0

-- the greatest bound
abbrev pub greatest : ℤ
greatest = pos 4294967295
