-- The parts of a value that the calls of a view answer (docs/views.md).
use Rattle.std.specs.Prelude.{◌≢◌, ℕ, zero, suc, ◌==◌, Bool, true, false, if◌then◌else◌, ℤ, pos}
use Rattle.std.specs.Prelude.{List, [], ◌∷◌, length, Option, Some, None}
use Rattle.fidl_wire.specs.declared.handle.HandleInfo.{HandleInfo}
use Rattle.fidl_limits.specs.declared.limits.TheConstants.{SAME_RIGHTS}
use Rattle.fidl_wire.specs.Value.{Value, Values, absent, bool, number, text, list, fields, handle}
use Rattle.fidl_wire.specs.Value.{none, value, count, table, union, Member, known, unknown, Members}
use Rattle.fidl_wire.specs.Value.{empty, member}
use Rattle.fidl_wire.specs.Term.{Term, Kind, uint8}
use Rattle.fidl_wire.specs.Term as ty
use Rattle.fidl_wire.specs.Figure.{Declarations}
use Rattle.fidl_wire.specs.Encoding as encoding
use Rattle.fidl_view.specs.Numbers.{unsigned_in, signed_in}

-- whether it is absent
abbrev pub absence_of : Value → Bool
absence_of absent = true
absence_of _ = false

-- a bool
abbrev pub bool_of : Value → Option Bool
bool_of (bool b) = Some b
bool_of _ = None

-- the type of numbers that the values of a type are
abbrev pub numbers_of : Term → Option Kind
numbers_of (ty.number kind) = Some kind
numbers_of (ty.bits kind mask) = Some kind
numbers_of (ty.enum kind values) = Some kind
numbers_of _ = None

-- the number of an unsigned type, and of bits or an enum of one
abbrev pub unsigned_of : Term → Value → Option ℕ
unsigned_of (ty.number kind) (number z) = unsigned_in kind z
unsigned_of (ty.bits kind mask) (number z) = unsigned_in kind z
unsigned_of (ty.enum kind values) (number z) = unsigned_in kind z
unsigned_of _ _ = None

-- the number of a signed type, and of an enum of one
abbrev pub signed_of : Term → Value → Option ℤ
signed_of (ty.number kind) (number z) = signed_in kind z
signed_of (ty.bits kind mask) (number z) = signed_in kind z
signed_of (ty.enum kind values) (number z) = signed_in kind z
signed_of _ _ = None

-- the number, where the value is one from 0 on, else 0
abbrev pub octet : Value → ℕ
octet (number (pos n)) = n
octet _ = 0

-- the numbers of values of uint8
abbrev pub octets : Values → List ℕ
octets none = []
octets (value v vs) = octet v ∷ octets vs

-- the bytes of elements of this type, where it is uint8
abbrev pub bytes_if : (element : Term) → Values → Option (List ℕ)
bytes_if (ty.number uint8) vs = Some (octets vs)
bytes_if _ vs = None

-- the bytes of a string, and of an array or a vector of uint8
abbrev pub bytes_of : Declarations → Term → Value → Option (List ℕ)
bytes_of ds t (text bytes) = Some bytes
bytes_of ds t (list vs) = bytes_if (encoding.element_of ds t) vs
bytes_of ds t _ = None

-- how many elements an array or a vector has, how many bytes a string, and how many envelopes a
-- table
abbrev pub length_of : Value → Option ℕ
length_of (list vs) = Some (count vs)
length_of (text bytes) = Some (length bytes)
length_of (table n ms) = Some n
length_of _ = None

-- the bytes of a string
abbrev pub string_of : Value → Option (List ℕ)
string_of (text bytes) = Some bytes
string_of _ = None

-- the record of a handle
abbrev pub handle_of : Value → Option HandleInfo
handle_of (handle h) = Some h
handle_of _ = None

-- the rights that a type grants to a handle: those that it requires, or those that came, where it
-- requires the same rights
abbrev pub rights_of : (required : ℕ) → HandleInfo → ℕ
rights_of required h = if required == SAME_RIGHTS then h.rights else required

-- the rights of a handle
abbrev pub granted_of : Term → Value → Option ℕ
granted_of (ty.handle optional subtype rights) (handle h) = Some (rights_of rights h)
granted_of _ _ = None

-- the value at a place of a list
abbrev pub nth : Values → ℕ → Option Value
nth none i = None
nth (value v vs) zero = Some v
nth (value v vs) (suc i) = nth vs i

-- an element of an array or a vector
abbrev pub element_of : Value → ℕ → Option Value
element_of (list vs) i = nth vs i
element_of _ i = None

-- the elements of an array or a vector, none of another value
abbrev pub elements_of : Value → Values
elements_of (list vs) = vs
elements_of _ = none

-- a member of a struct, also of the struct in a box
abbrev pub field_of : Value → ℕ → Option Value
field_of (fields vs) i = nth vs i
field_of _ i = None

-- a table's member at an ordinal
abbrev pub at_ordinal : Members → ℕ → Option Member
at_ordinal empty ordinal = None
at_ordinal (member key x ms) ordinal = if key == ordinal then Some x else at_ordinal ms ordinal

-- the value of a known member
abbrev pub known_of : Member → Option Value
known_of (known v) = Some v
known_of _ = None

-- the value of a member that is there and known
abbrev pub known_in : Option Member → Option Value
known_in None = None
known_in (Some x) = known_of x

-- the known member of a table at an ordinal
abbrev pub member_of : Value → ℕ → Option Value
member_of (table n ms) ordinal = known_in (at_ordinal ms ordinal)
member_of _ ordinal = None

-- a union's ordinal, and its member
abbrev pub variant_of : Value → Option (ℕ × Member)
variant_of (union ordinal x) = Some (ordinal, x)
variant_of _ = None

-- what a table or a union holds at an ordinal
abbrev pub held_of : Value → ℕ → Option Member
held_of (table n ms) ordinal = at_ordinal ms ordinal
held_of (union key x) ordinal = if key == ordinal then Some x else None
held_of _ ordinal = None

-- a member that is there and unknown
abbrev pub unknown_in : Option Member → Option Member
unknown_in (Some (unknown inline bytes handles)) = Some (unknown inline bytes handles)
unknown_in _ = None

-- the unknown member of a table or a union at an ordinal
abbrev pub unknown_of : Value → ℕ → Option Member
unknown_of v ordinal = unknown_in (held_of v ordinal)

-- no array, and no vector that is there
abbrev pub IsNoList : Value → Type 0
IsNoList v = (vs : Values) → v ≢ list vs

-- no struct, and no box that is there
abbrev pub IsNoStruct : Value → Type 0
IsNoStruct v = (vs : Values) → v ≢ fields vs
