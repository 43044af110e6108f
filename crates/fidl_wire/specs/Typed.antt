-- Which values a type has (docs/wire.md, "Values of a type").
use Rattle.std.specs.Prelude.{◌≡◌, ℕ, ◌<◌, ◌≤◌, ◌%◌, ◌^◌, ◌⊎◌, Bool, true, false, IsTrue, IsFalse}
use Rattle.std.specs.Prelude.{ℤ, pos, negsuc, List, length, Option, Some, None, IfSome, IsUtf8}
use Rattle.std.specs.Prelude.{Contains, bit_and, bit_or, FitsSigned}
use Rattle.std.specs.Int.{w8, w16, w32, w64, FitsUnsignedBits}
use Rattle.std.specs.List.{AllByRecursion}
use Rattle.fidl_wire.specs.declared.handle.HandleInfo.{HandleInfo}
use Rattle.fidl_limits.specs.declared.limits.TheConstants.{SAME_RIGHTS}
use Rattle.fidl_wire.specs.Value.{Value, absent, bool, number, text, list, fields, handle, table}
use Rattle.fidl_wire.specs.Value.{union, Values, none, value, Member, known, unknown, Members}
use Rattle.fidl_wire.specs.Value.{empty, member, count}
use Rattle.fidl_wire.specs.Term.{Term, Kind, Fields, no_fields, field, Rows, resolve, fields_of}
use Rattle.fidl_wire.specs.Term.{find, int8, int16, int32, int64, uint8, uint16, uint32, uint64}
use Rattle.fidl_wire.specs.Term as ty
use Rattle.fidl_wire.specs.Figure.{Declarations}

-- the number is in the range of its type
abbrev pub InRange : Kind → ℤ → Type 0
InRange int8 z = FitsSigned w8 z
InRange int16 z = FitsSigned w16 z
InRange int32 z = FitsSigned w32 z
InRange int64 z = FitsSigned w64 z
InRange uint8 z = FitsUnsignedBits 8 z
InRange uint16 z = FitsUnsignedBits 16 z
InRange uint32 z = FitsUnsignedBits 32 z
InRange uint64 z = FitsUnsignedBits 64 z

-- the number has no bit outside the mask
abbrev pub InMask : ℕ → ℤ → Type 0
InMask mask (pos n) = bit_or n mask ≡ mask
InMask mask (negsuc n) = ⊥

-- a box can be absent, and so can what is optional
abbrev pub MayBeAbsent : Term → Type 0
MayBeAbsent (ty.box t) = Unit {0}
MayBeAbsent (ty.handle optional subtype rights) = IsTrue optional
MayBeAbsent (ty.string optional bound) = IsTrue optional
MayBeAbsent (ty.vector optional bound t) = IsTrue optional
MayBeAbsent (ty.union optional strict rows) = IsTrue optional
MayBeAbsent _ = ⊥

-- a handle record has three numbers of 32 bits
abbrev pub IsHandle : HandleInfo → Type 0
IsHandle h = (h.id < 2 ^ 32) × (h.object_type < 2 ^ 32) × (h.rights < 2 ^ 32)

-- the object is of the subtype, or any is wanted; the required rights came, or whatever came will
-- do
abbrev pub IsAllowed : (subtype rights : ℕ) → HandleInfo → Type 0
IsAllowed subtype rights h = ((h.object_type ≡ subtype) ⊎ (subtype ≡ 0))
    × ((bit_and h.rights rights ≡ rights) ⊎ (rights ≡ SAME_RIGHTS))

-- raw bytes
abbrev pub AreBytes : List ℕ → Type 0
AreBytes bytes = AllByRecursion (λ b. b < 256) bytes

-- the bytes of an unknown member are four inline, and whole eights out of line
abbrev pub IsUnknownLength : (inline : Bool) → ℕ → Type 0
IsUnknownLength true n = n ≡ 4
IsUnknownLength false n = (0 < n) × (n % 8 ≡ 0)

-- what stands in a box is a struct
abbrev pub IsStruct : Term → Type 0
IsStruct (ty.struct fs) = Unit {0}
IsStruct _ = ⊥

abbrev mutual
  -- the value is one of the term, which is no name
  pub IsTyped : Declarations → Term → Value → Type 0
  IsTyped ds ty.bool (bool b) = Unit {0}
  IsTyped ds (ty.number kind) (number z) = InRange kind z
  IsTyped ds (ty.bits kind mask) (number z) = InRange kind z × IfSome mask (λ m. InMask m z)
  IsTyped ds (ty.enum kind values) (number z) = InRange kind z × IfSome values (λ zs. Contains zs z)
  IsTyped ds (ty.string optional bound) (text bytes) = IsUtf8 bytes × (length bytes ≤ bound)
  IsTyped ds (ty.vector optional bound t) (list vs) = (count vs ≤ bound)
      × AllTyped ds (resolve ds.terms t) vs
  IsTyped ds (ty.array t n) (list vs) = (count vs ≡ n) × AllTyped ds (resolve ds.terms t) vs
  IsTyped ds (ty.struct fs) (fields vs) = EachTyped ds fs vs
  IsTyped ds (ty.box t) (fields vs) = IsStruct (resolve ds.terms t)
      × EachTyped ds (fields_of (resolve ds.terms t)) vs
  IsTyped ds (ty.handle optional subtype rights) (handle h) = IsHandle h
      × IsAllowed subtype rights h
  IsTyped ds (ty.table rows) (table n ms) = (n < 2 ^ 64) × RiseTyped ds rows 0 n ms
  IsTyped ds (ty.union optional strict rows) (union ordinal m) = (0 < ordinal) × (ordinal < 2 ^ 64)
      × IsTypedMember ds strict (find rows ordinal) m
  IsTyped ds t absent = MayBeAbsent t
  IsTyped ds _ _ = ⊥

  -- each element is of the term
  pub AllTyped : Declarations → Term → Values → Type 0
  AllTyped ds t none = Unit {0}
  AllTyped ds t (value v vs) = IsTyped ds t v × AllTyped ds t vs

  -- as many values as members, each of its member's type
  pub EachTyped : Declarations → Fields → Values → Type 0
  EachTyped ds no_fields none = Unit {0}
  EachTyped ds (field name t fs) (value v vs) = IsTyped ds (resolve ds.terms t) v
      × EachTyped ds fs vs
  EachTyped ds _ _ = ⊥

  -- a member is known and of its type where the layout has its ordinal, else unknown; a strict
  -- layout refuses those
  pub IsTypedMember : Declarations → (strict : Bool) → Option Term → Member → Type 0
  IsTypedMember ds strict (Some t) (known v) = IsTyped ds (resolve ds.terms t) v
  IsTypedMember ds strict None (unknown inline bytes handles) = IsFalse strict × AreBytes bytes
      × IsUnknownLength inline (length bytes) × AllByRecursion IsHandle handles
  IsTypedMember ds strict _ _ = ⊥

  -- a table's members stand by ordinals that rise from above `last` up to the count
  pub RiseTyped : Declarations → Rows → (last n : ℕ) → Members → Type 0
  RiseTyped ds rows last n empty = Unit {0}
  RiseTyped ds rows last n (member ordinal m ms) = (last < ordinal) × (ordinal ≤ n)
      × IsTypedMember ds false (find rows ordinal) m × RiseTyped ds rows ordinal n ms

-- the value is one of the term
abbrev pub Typed : Declarations → Term → Value → Type 0
Typed ds t v = IsTyped ds (resolve ds.terms t) v
