-- What is to be written, part by part, and how the writing of a part ends.
use Rattle.std.specs.Prelude.{◌≤◌, ◌<◌, ℕ, suc, ◌+◌, Bool, List, length, Option, Some, None}
use Rattle.std.specs.Int.{next_multiple_of}
use Rattle.fidl_wire.specs.declared.handle.HandleInfo.{HandleInfo}
use Rattle.fidl_limits.specs.declared.limits.TheConstants.{MAX_MESSAGE_BYTES, MAX_MESSAGE_HANDLES}
use Rattle.fidl_wire.specs.Value.{Value, Values, Member, Members}
use Rattle.fidl_wire.specs.Term.{Term, Fields, Rows, resolve}
use Rattle.fidl_wire.specs.Term as ty
use Rattle.fidl_wire.specs.Figure.{Declarations, size_of}
use Rattle.fidl_wire.specs.Typed.{IsTyped, AllTyped, EachTyped, IsTypedMember, RiseTyped}
use Rattle.fidl_wire.specs.Encoding.{Encoding, encoding_of, elements, members, enveloped, envelopes}
use Rattle.fidl_wire.specs.Depth.{depth_of, elements_depth, fields_depth, member_depth, members_depth}
use Rattle.fidl_table_format.specs.declared.record.Row.{Row}
use Rattle.fidl_table_format.specs.Section.{header_of, entry_at}
use Rattle.fidl_table_format.specs.Terms.{declarations_of, fields_from, strict_values, underlying}
use Rattle.fidl_encode.specs.declared.fault.EncodeFault.{EncodeFault}
use Rattle.fidl_encode.specs.declared.fault.EncodeFault.TheVariants.{TooDeep, TooLong, TooManyHandles}
use Rattle.fidl_encode.specs.declared.fault.EncodeFault.TheVariants.{Memory, WrongShape, OverBound}
use Rattle.fidl_encode.specs.declared.fault.EncodeFault.TheVariants.{NotUtf8, UnknownValue, WrongHandle}
use Rattle.fidl_encode.specs.Broken.{Breaks, ElementBreaks, FieldBreaks, MemberBreaks, EntryBreaks}
use Rattle.fidl_encode.specs.Writing.{Written, Adds, IsWithin}

-- what is to be written: that it is of its type, which named rules it breaks, how deep it lies, and
-- its encoding
pub record Part : Type 1 where
  pub Typed : Type 0
  pub breaks : EncodeFault → Type 0
  pub depth : ℕ
  pub encoding : Encoding

-- a value of a term that is no name
abbrev pub value_part : Declarations → Term → Value → Part
value_part ds t v =
    record {
      Typed = IsTyped ds t v;
      breaks = Breaks ds t v;
      depth = depth_of ds t v;
      encoding = encoding_of ds t v;
    }

-- elements, one behind the other
abbrev pub elements_part : Declarations → Term → Values → Part
elements_part ds t vs =
    record {
      Typed = AllTyped ds t vs;
      breaks = ElementBreaks ds t vs;
      depth = elements_depth ds t vs;
      encoding = elements ds t vs;
    }

-- a struct's members from an offset on, up to the struct's size
abbrev pub fields_part : Declarations → (size from : ℕ) → Fields → Values → Part
fields_part ds size from fs vs =
    record {
      Typed = EachTyped ds fs vs;
      breaks = FieldBreaks ds fs vs;
      depth = fields_depth ds fs vs;
      encoding = members ds size from fs vs;
    }

-- the envelope of a member
abbrev pub member_part : Declarations → (strict : Bool) → Option Term → Member → Part
member_part ds strict t m =
    record {
      Typed = IsTypedMember ds strict t m;
      breaks = MemberBreaks ds t m;
      depth = member_depth ds t m;
      encoding = enveloped ds t m;
    }

-- the envelopes of a table behind that of the ordinal `last`, up to the count
abbrev pub envelopes_part : Declarations → Rows → (last n : ℕ) → Members → Part
envelopes_part ds rows last n ms =
    record {
      Typed = RiseTyped ds rows last n ms;
      breaks = EntryBreaks ds rows ms;
      depth = members_depth ds rows ms;
      encoding = envelopes ds rows (suc last) n ms;
    }

-- the type that an entry of a table declares
abbrev pub type_at : (table : List ℕ) (entry : ℕ) → Term
type_at table entry = resolve (declarations_of table).terms (ty.named entry)

-- a value of that type
abbrev pub entry_part : (table : List ℕ) (entry : ℕ) → Value → Part
entry_part table entry v = value_part (declarations_of table) (type_at table entry) v

-- the enum that an entry declares
abbrev pub enum_at : (table : List ℕ) (entry : ℕ) → Term
enum_at table entry =
    let e = entry_at table entry in ty.enum (underlying e) (strict_values table (header_of table) e)

-- the members that a struct's entry declares
abbrev pub fields_at : (table : List ℕ) (entry : ℕ) → Fields
fields_at table entry =
    let e = entry_at table entry in fields_from table (header_of table) e.first e.count

-- a struct of these members
abbrev pub struct_part : (table : List ℕ) (entry : ℕ) → Values → Part
struct_part table entry vs =
    let ds = declarations_of table in
    let fs = fields_at table entry in
    fields_part ds (size_of ds (ty.struct fs)) 0 fs vs

-- the type of a row, where there is one
abbrev pub row_type : Option Row → Option Term
row_type None = None
row_type (Some r) = Some (ty.named r.entry)

-- the part is written at a place: it is of its type, no deeper than this, and the message is within
-- the limits
pub record IsWritten (p : Part) (depth at : ℕ) (old new : Written) : Type 0 where
  pub typed : p.Typed
  pub shallow : p.depth ≤ depth
  pub adds : Adds old new at p.encoding
  pub within : IsWithin new

-- the part is refused, behind what is written: it breaks the rule that the refusal names, is not of
-- its type, or exceeds a limit where it is
abbrev pub IsRefused : Part → (depth : ℕ) → Written → EncodeFault → Type 0
IsRefused p depth old TooDeep = p.Typed → depth < p.depth
IsRefused p depth old TooLong = p.Typed
    → MAX_MESSAGE_BYTES < length old.bytes + length p.encoding.out
IsRefused p depth old TooManyHandles = p.Typed
    → MAX_MESSAGE_HANDLES < length old.handles + length p.encoding.handles
IsRefused p depth old Memory = Unit {0}
IsRefused p depth old WrongShape = ¬ p.Typed
IsRefused p depth old OverBound = p.breaks OverBound
IsRefused p depth old NotUtf8 = p.breaks NotUtf8
IsRefused p depth old UnknownValue = p.breaks UnknownValue
IsRefused p depth old WrongHandle = p.breaks WrongHandle

-- there is no room for an object of this size
abbrev pub HasNoRoom : Written → (size : ℕ) → EncodeFault → Type 0
HasNoRoom old size TooLong = MAX_MESSAGE_BYTES < length old.bytes + next_multiple_of size 8
HasNoRoom old size Memory = Unit {0}
HasNoRoom old size _ = ⊥

-- there is no room for these handles
abbrev pub HasNoHandles : Written → List HandleInfo → EncodeFault → Type 0
HasNoHandles old handles TooManyHandles = MAX_MESSAGE_HANDLES
    < length old.handles + length handles
HasNoHandles old handles Memory = Unit {0}
HasNoHandles old handles _ = ⊥
