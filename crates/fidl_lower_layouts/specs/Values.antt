-- The numbers of bits and enums (docs/language.md, "Definitions").
use Rattle.std.specs.Prelude.{ℕ, ◌≡◌, ◌<◌, ◌^◌, ℤ, pos, ◌<ℤ◌, Bool, true, false, List, [], ◌∷◌, map}
use Rattle.std.specs.Prelude.{Some, None, bit_or}
use Rattle.std.specs.List.{AllByRecursion, AllPairs}
use Rattle.std.specs.List.Sorted.{IsPermutation}
use Rattle.fidl_tree.specs.Syntax.{ValuesKind, bits_kind, enum_kind, Underlying, ValueMember}
use Rattle.fidl_tree.specs.declared.file.File.{File}
use Rattle.fidl_named.specs.Places.{underlying_path}
use Rattle.fidl_consts.specs.declared.const_type.NumberKind.{NumberKind}
use Rattle.fidl_consts.specs.declared.const_type.NumberKind.TheVariants as number
use Rattle.fidl_consts.specs.Types.{UnderlyingIs}
use Rattle.fidl_wire.specs.Term as ty
use Rattle.fidl_wire.specs.Term.{Term}
use Rattle.fidl_member_rules.specs.Numbers.{NumbersAre}

-- the types of whole numbers in messages
abbrev pub kind_of : NumberKind → ty.Kind
kind_of number.Int8 = ty.int8
kind_of number.Int16 = ty.int16
kind_of number.Int32 = ty.int32
kind_of number.Int64 = ty.int64
kind_of number.Uint8 = ty.uint8
kind_of number.Uint16 = ty.uint16
kind_of number.Uint32 = ty.uint32
kind_of number.Uint64 = ty.uint64

-- each bit that one of these numbers has
abbrev pub or_all : List ℕ → ℕ
or_all [] = 0
or_all (n ∷ ns) = bit_or n (or_all ns)

-- the mask of numbers, none of them negative and each of 64 bits: all their bits
pub record IsMaskOf (zs : List ℤ) (mask : ℕ) : Type 0 where
  pub words : List ℕ
  pub same : zs ≡ map pos words
  pub low : AllByRecursion (λ n. n < 2 ^ 64) words
  pub is : mask ≡ or_all words

-- strict bits: with the mask of their members' numbers
pub record AreStrictBits (files : List File) (f : File) (kind : NumberKind) (ms : List ValueMember)
    (t : Term) : Type 0 where
  pub numbers : List ℤ
  pub mask : ℕ
  pub are : NumbersAre files f kind ms numbers
  pub masked : IsMaskOf numbers mask
  pub is : t ≡ ty.bits (kind_of kind) (Some mask)

-- a strict enum: with the numbers of its members, which rise, whatever the order in which the
-- members are written
pub record IsStrictEnum (files : List File) (f : File) (kind : NumberKind) (ms : List ValueMember)
    (t : Term) : Type 0 where
  pub written : List ℤ
  pub are : NumbersAre files f kind ms written
  pub numbers : List ℤ
  pub same : IsPermutation written numbers
  pub rise : AllPairs (λ y z. y <ℤ z) numbers
  pub is : t ≡ ty.enum (kind_of kind) (Some numbers)

-- bits or an enum of this type of numbers: a flexible one has neither mask nor numbers
abbrev pub IsNumbered : List File → File → NumberKind → ValuesKind → (strict : Bool)
    → List ValueMember → Term → Type 0
IsNumbered files f kind bits_kind false ms t = t ≡ ty.bits (kind_of kind) None
IsNumbered files f kind bits_kind true ms t = AreStrictBits files f kind ms t
IsNumbered files f kind enum_kind false ms t = t ≡ ty.enum (kind_of kind) None
IsNumbered files f kind enum_kind true ms t = IsStrictEnum files f kind ms t

-- bits or an enum, of the type of numbers that is written or that they have without
pub record ValuesAre (files : List File) (f : File) (values : ValuesKind) (strict : Bool)
    (u : Underlying) (ms : List ValueMember) (t : Term) : Type 0 where
  pub kind : NumberKind
  pub of : UnderlyingIs files f values (underlying_path u) (Some kind)
  pub is : IsNumbered files f kind values strict ms t
