-- Types of two declarations that are alike: level by level the same, whatever the numbers are by
-- which their declarations name their parts (docs/wire.md, "Alike types").
use Rattle.std.specs.Prelude.{◌≡◌, ℕ, zero, suc, ◌↔◌, ℤ, Bool, List, Option, Some, None}
use Rattle.std.specs.Prelude.{slice_get}
use Rattle.std.specs.List.{Contains}
use Rattle.fidl_wire.specs.Value.{Value}
use Rattle.fidl_wire.specs.Term.{Term, Kind, Fields, Rows, resolve, find}
use Rattle.fidl_wire.specs.Term as ty
use Rattle.fidl_wire.specs.Figure.{Declarations}
use Rattle.fidl_wire.specs.Typed.{Typed}
use Rattle.fidl_wire.specs.Encoding.{Enc}
use Rattle.fidl_wire.specs.Depth.{Depth}
use Rattle.fidl_wire.specs.Text.{Text, name_at}

-- the values of two enums: both take any, or both list the same, in whatever order
pub data AlikeValues : Option (List ℤ) → Option (List ℤ) → Type 0 where
  flexible : AlikeValues None None
  strict : {zs ws : List ℤ} → ((z : ℤ) → Contains zs z ↔ Contains ws z)
      → AlikeValues (Some zs) (Some ws)

-- what two layouts have at an ordinal: nothing, or types so related
pub data AlikeMember (R : Term → Term → Type 0) : Option Term → Option Term → Type 0 where
  missing : AlikeMember R None None
  there : {t u : Term} → R t u → AlikeMember R (Some t) (Some u)

-- two structs' members: one by one of the same name and of types so related
pub data AlikeFields (R : Term → Term → Type 0) : Fields → Fields → Type 0 where
  no_fields : AlikeFields R ty.no_fields ty.no_fields
  field : {name other : List ℕ} {t u : Term} {fs gs : Fields} → name ≡ other → R t u
      → AlikeFields R fs gs → AlikeFields R (ty.field name t fs) (ty.field other u gs)

-- two layouts' members: at each ordinal of the same name and of types so related, in whatever order
-- they are listed
pub record AlikeRows (R : Term → Term → Type 0) (rows others : Rows) : Type 0 where
  pub names : (ordinal : ℕ) → name_at rows ordinal ≡ name_at others ordinal
  pub members : (ordinal : ℕ) → AlikeMember R (find rows ordinal) (find others ordinal)

-- two types, of which none is a name: one kind of type, the same numbers, and parts so related
pub data Alike (R : Term → Term → Type 0) : Term → Term → Type 0 where
  bool : Alike R ty.bool ty.bool
  number : {k l : Kind} → k ≡ l → Alike R (ty.number k) (ty.number l)
  bits : {k l : Kind} {m n : Option ℕ} → k ≡ l → m ≡ n → Alike R (ty.bits k m) (ty.bits l n)
  enum : {k l : Kind} {zs ws : Option (List ℤ)} → k ≡ l → AlikeValues zs ws
      → Alike R (ty.enum k zs) (ty.enum l ws)
  handle : {o p : Bool} {s t r q : ℕ} → o ≡ p → s ≡ t → r ≡ q
      → Alike R (ty.handle o s r) (ty.handle p t q)
  string : {o p : Bool} {m n : ℕ} → o ≡ p → m ≡ n → Alike R (ty.string o m) (ty.string p n)
  vector : {o p : Bool} {m n : ℕ} {t u : Term} → o ≡ p → m ≡ n → R t u
      → Alike R (ty.vector o m t) (ty.vector p n u)
  array : {t u : Term} {m n : ℕ} → R t u → m ≡ n → Alike R (ty.array t m) (ty.array u n)
  box : {t u : Term} → R t u → Alike R (ty.box t) (ty.box u)
  struct : {fs gs : Fields} → AlikeFields R fs gs → Alike R (ty.struct fs) (ty.struct gs)
  table : {rows others : Rows} → AlikeRows R rows others
      → Alike R (ty.table rows) (ty.table others)
  union : {o p s q : Bool} {rows others : Rows} → o ≡ p → s ≡ q → AlikeRows R rows others
      → Alike R (ty.union o s rows) (ty.union p q others)

-- alike down to this many levels, each name read in its own declarations
abbrev pub AlikeTo : Declarations → Declarations → (levels : ℕ) → Term → Term → Type 0
AlikeTo ds es zero t u = Unit {0}
AlikeTo ds es (suc n) t u =
    Alike (λ t u. AlikeTo ds es n t u) (resolve ds.terms t) (resolve es.terms u)

-- alike all the way down
abbrev pub AreAlike : Declarations → Declarations → Term → Term → Type 0
AreAlike ds es t u = (levels : ℕ) → AlikeTo ds es levels t u

-- whether the value is one of the type, and its encoding, depth and text, are the same for both
-- types
pub record IsOne (ds es : Declarations) (t u : Term) (v : Value) : Type 0 where
  pub typed : Typed ds t v ↔ Typed es u v
  pub encoding : Enc ds t v ≡ Enc es u v
  pub depth : Depth ds t v ≡ Depth es u v
  pub text : Text ds t v ≡ Text es u v

-- the second term names a number, and the type in that place of the list is the first
abbrev pub IsNumbered : List Term → Term → Term → Type 0
IsNumbered types t u =
    (number : ℕ) × (slice_get types number ≡ Some t) × (u ≡ ty.named number)

-- each type of the list is alike, one level deep, to the declaration of its number, whose parts are
-- named by their numbers in the list
abbrev pub AreNumbered : Declarations → Declarations → List Term → Type 0
AreNumbered ds es types =
    (number : ℕ) (t : Term) → slice_get types number ≡ Some t
    → Alike (λ t u. IsNumbered types t u) (resolve ds.terms t) (resolve es.terms (ty.named number))
