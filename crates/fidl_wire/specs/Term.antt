-- The types of FIDL, as terms (docs/wire.md, "Terms and declarations").
use Rattle.std.specs.Prelude.{ℕ, ◌<◌, ◌^◌, ◌==◌, ℤ, List, [], Bool, Option, Some, None, get_or}
use Rattle.std.specs.Prelude.{if◌then◌else◌}
use Rattle.std.specs.Int.{Width, w8, w16, w32, w64}

-- the types of whole numbers
pub data Kind : Type 0 where
  int8 int16 int32 int64 uint8 uint16 uint32 uint64 : Kind

mutual
  -- a type; bits have their mask and enums their values where they are strict; `named` is a
  -- declaration, by its number
  pub data Term : Type 0 where
    bool : Term
    number : Kind → Term
    bits : Kind → (mask : Option ℕ) → Term
    enum : Kind → (values : Option (List ℤ)) → Term
    handle : (optional : Bool) (subtype rights : ℕ) → Term
    string : (optional : Bool) (bound : ℕ) → Term
    vector : (optional : Bool) (bound : ℕ) → Term → Term
    array : Term → (count : ℕ) → Term
    box : Term → Term
    struct : Fields → Term
    table : Rows → Term
    union : (optional strict : Bool) → Rows → Term
    named : ℕ → Term

  -- a struct's members in order, each with its name
  pub data Fields : Type 0 where
    no_fields : Fields
    field : (name : List ℕ) → Term → Fields → Fields

  -- the members of a table or union, each with its ordinal and name
  pub data Rows : Type 0 where
    no_rows : Rows
    row : (ordinal : ℕ) (name : List ℕ) → Term → Rows → Rows

-- how wide a number is
abbrev pub width : Kind → Width
width int8 = w8
width int16 = w16
width int32 = w32
width int64 = w64
width uint8 = w8
width uint16 = w16
width uint32 = w32
width uint64 = w64

-- a type without values, an enum without members: what the number of no declaration is read as
abbrev pub nothing : Term
nothing = enum uint8 (Some [])

-- the declaration that a term names, or the term itself
abbrev pub resolve : List Term → Term → Term
resolve terms (named i) = get_or terms i nothing
resolve terms t = t

-- a struct's members
abbrev pub fields_of : Term → Fields
fields_of (struct fs) = fs
fields_of _ = no_fields

-- the members of a table or union
abbrev pub rows_of : Term → Rows
rows_of (table rows) = rows
rows_of (union optional strict rows) = rows
rows_of _ = no_rows

-- the type at this ordinal; of several members with one ordinal the first counts
abbrev pub find : Rows → ℕ → Option Term
find no_rows ordinal = None
find (row key name t rows) ordinal = if key == ordinal then Some t else find rows ordinal

-- a declaration is no name itself
abbrev pub IsNoName : Term → Type 0
IsNoName (named i) = ⊥
IsNoName _ = Unit {0}

-- each bound is a uint32 number
abbrev mutual
  pub IsBounded : Term → Type 0
  IsBounded (string optional bound) = bound < 2 ^ 32
  IsBounded (vector optional bound t) = (bound < 2 ^ 32) × IsBounded t
  IsBounded (array t n) = IsBounded t
  IsBounded (box t) = IsBounded t
  IsBounded (struct fs) = AreFieldsBounded fs
  IsBounded (table rows) = AreRowsBounded rows
  IsBounded (union optional strict rows) = AreRowsBounded rows
  IsBounded _ = Unit {0}

  pub AreFieldsBounded : Fields → Type 0
  AreFieldsBounded no_fields = Unit {0}
  AreFieldsBounded (field name t fs) = IsBounded t × AreFieldsBounded fs

  pub AreRowsBounded : Rows → Type 0
  AreRowsBounded no_rows = Unit {0}
  AreRowsBounded (row ordinal name t rows) = IsBounded t × AreRowsBounded rows
