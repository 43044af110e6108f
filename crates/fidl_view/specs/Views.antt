-- Views as parts of a message, and what an iterator of elements has left (docs/views.md, "Shows"
-- and "Elements").
use Rattle.std.specs.Prelude.{◌≡◌, ◌<◌, ℕ, ◌+◌, ◌-◌, List, slice_range, Option, Some, None}
use Rattle.std.specs.Prelude.{MatchOption}
use Rattle.std.specs.Option.{option_map}
use Rattle.std.specs.List.{AllByRecursion}
use Rattle.std.specs.Int.{w64}
use Rattle.fidl_wire.specs.Value.{Value, Values, list, fields, Member}
use Rattle.fidl_wire.specs.Term.{Term, resolve, fields_of}
use Rattle.fidl_wire.specs.Term as ty
use Rattle.fidl_wire.specs.Figure.{Declarations}
use Rattle.fidl_wire.specs.Encoding.{element_of}
use Rattle.fidl_wire.specs.Message.{Encodes}
use Rattle.fidl_wire.specs.Field.{number_at}
use Rattle.fidl_table_format.specs.declared.record.Entry.{Entry}
use Rattle.fidl_table_format.specs.declared.record.Row.{Row}
use Rattle.fidl_table_format.specs.Section.{header_of, entry_at, row_at}
use Rattle.fidl_table_format.specs.Terms.{declarations_of}
use Rattle.fidl_decode_model.specs.Placed.{content_at, object_at}
use Rattle.fidl_decode_model.specs.Model.{Shown}
use Rattle.fidl_view.specs.declared.view.View.{View}
use Rattle.fidl_view.specs.declared.elements.Elements.{Elements}
use Rattle.fidl_view.specs.declared.structs.Members.{Members}
use Rattle.fidl_view.specs.declared.fields.Fields.{Fields}
use Rattle.fidl_view.specs.declared.envelope.Envelope.{Envelope}
use Rattle.fidl_view.specs.Parts.{known_of}
use Rattle.fidl_view.specs.Shows.{Shows, type_of}
use Rattle.fidl_view.specs.Elements.{Part, part, parts_from, ShowEach}
use Rattle.fidl_view.specs.Fields.{parts_of_rows}
use Rattle.fidl_view.specs.Members.{ShowMembers, ShowMember, struct_of, field_at, fields_at}
use Rattle.fidl_view.specs.Members.{term_at}

-- what a view is seen as
abbrev pub part_of : View → Part
part_of v = part v.decoded.now v.index v.place

-- the value is the part that the view shows
abbrev pub IsShownBy : View → Value → Type 0
IsShownBy view v = let p = part_of view in Shows p.message p.index p.place v

-- a decoded message encodes the value
abbrev pub IsEncoded : Shown → Value → Type 0
IsEncoded d v = Encodes (declarations_of d.table) (ty.named d.entry) v d.bytes d.handles

-- the one value of which a statement is true
pub record IsOnly (p : Value → Type 0) (v : Value) : Type 0 where
  pub holds : p v
  pub only : (w : Value) → p w → w ≡ v

-- the type of the part, and the declarations that its names refer to
abbrev pub type_shown : View → Term
type_shown view = let p = part_of view in type_of p.message p.index

abbrev pub types_shown : View → Declarations
types_shown view = declarations_of (part_of view).message.table

-- the entry of the part's type, as the table states it
abbrev pub entry_shown : View → Entry
entry_shown view = let p = part_of view in entry_at p.message.table p.index

-- the type of the elements of an array or a vector
abbrev pub element_type : View → Term
element_type view = element_of (types_shown view) (type_shown view)

-- the type of the member of a struct, or of the struct in a box, at this place in its declaration
abbrev pub field_type : View → (at : ℕ) → Option Term
field_type view at = option_map (resolve (types_shown view).terms)
    (field_at (fields_of (struct_of (types_shown view) (type_shown view))) at)

-- the type of the member of a table or a union at this ordinal
abbrev pub member_type : View → (ordinal : ℕ) → Option Term
member_type view ordinal = let p = part_of view in
    option_map (resolve (types_shown view).terms) (term_at p.message p.index ordinal)

-- how many elements an array of the type has, or a vector of the type by its count
abbrev pub count_at : Term → (bytes : List ℕ) → (place : ℕ) → ℕ
count_at (ty.array t n) bytes place = n
count_at (ty.vector optional bound t) bytes place = number_at w64 bytes place
count_at _ bytes place = 0

-- as many bytes of the message as an array or a vector of the type has elements, where they stand:
-- in place, or in the object of a vector's marker
abbrev pub elements_at : Shown → Term → (place : ℕ) → List ℕ
elements_at d t place =
    let from = content_at d.links t place in
    slice_range d.bytes from (from + count_at t d.bytes place)

-- the bytes of a string, which are as many as its count says in the object of its marker, and those
-- of another type's elements
abbrev pub bytes_at : Shown → Term → (place : ℕ) → List ℕ
bytes_at d (ty.string optional bound) place =
    let from = object_at d.links (place + 8) in
    slice_range d.bytes from (from + number_at w64 d.bytes place)
bytes_at d t place = elements_at d t place

-- those of the part
abbrev pub elements_shown : View → List ℕ
elements_shown view = let p = part_of view in elements_at p.message (type_shown view) p.place

abbrev pub bytes_shown : View → List ℕ
bytes_shown view = let p = part_of view in bytes_at p.message (type_shown view) p.place

-- the decoded message of an iterator's parts
abbrev pub message_left : Elements → Shown
message_left s = s.decoded.now

-- the entry of their type, and how many are still to come
abbrev pub entry_left : Elements → ℕ
entry_left s = s.index

abbrev pub count_left : Elements → ℕ
count_left s = s.left

-- the parts whose views are still to come
abbrev pub parts_left : Elements → List Part
parts_left s = parts_from s.decoded.now s.index s.size s.place s.left

-- elements of the part's own elements' type, as many as it has, where they stand
pub record IsRunOf (view : View) (elements : Elements) : Type 0 where
  pub message : message_left elements ≡ (part_of view).message
  pub typed : element_of (types_shown view) (type_shown view)
      ≡ type_of (part_of view).message elements.index
  pub counted : elements.left ≡ count_at (type_shown view) (part_of view).message.bytes view.place
  pub placed : 0 < elements.left → elements.place
      ≡ content_at (part_of view).message.links (type_shown view) view.place

-- each part that is left is of the type of the view's elements
abbrev pub AreOfElements : View → Elements → Type 0
AreOfElements view elements =
    AllByRecursion (λ (p : Part). type_of p.message p.index ≡ element_type view) (parts_left elements)

-- the value is a list, and the parts that are left show its elements
abbrev pub ShowsListOf : Value → Elements → Type 0
ShowsListOf v elements = (vs : Values) × (v ≡ list vs) × ShowEach (parts_left elements) vs

-- the decoded message of members
abbrev pub message_held : Members → Shown
message_held members = members.decoded.now

-- the entry of the struct that they are members of, and where it stands
abbrev pub entry_held : Members → ℕ
entry_held members = members.index

abbrev pub place_held : Members → ℕ
place_held members = members.place

-- that entry as the table states it, and the row of the member at this place in its declaration
abbrev pub struct_held : Members → Entry
struct_held members = entry_at (message_held members).table (entry_held members)

abbrev pub row_held : Members → (at : ℕ) → Row
row_held members at = let t = (message_held members).table in
    row_at t (header_of t) ((struct_held members).first + at)

-- they are those of a view's struct, or of the struct in its box
abbrev pub AreFieldsOf : View → Members → Type 0
AreFieldsOf view members =
    fields_of (struct_of (types_shown view) (type_shown view))
    ≡ fields_at members.decoded.now members.index

-- the value has members, and they stand where a struct's members were found
abbrev pub ShowsMembersOf : Value → Members → Type 0
ShowsMembersOf v members = (vs : Values) × (v ≡ fields vs)
    × ShowMembers members.decoded.now members.index members.place vs

-- the members whose views are still to come
abbrev pub fields_left : Fields → List Part
fields_left s = parts_of_rows s.members.decoded.now (s.first + s.next) s.members.place
    (s.count - s.next)

-- the value has members, and the parts that are left show these, one by one
abbrev pub ShowsFieldsOf : Value → Fields → Type 0
ShowsFieldsOf v s = (vs : Values) × (v ≡ fields vs) × ShowEach (fields_left s) vs

-- the decoded message of an envelope
abbrev pub message_in : Envelope → Shown
message_in envelope = envelope.decoded.now

-- the type that the layout of an envelope's entry gives its member
abbrev pub type_held : Envelope → Option Term
type_held envelope = let d = envelope.decoded.now in
    option_map (resolve (declarations_of d.table).terms) (term_at d envelope.index envelope.ordinal)

-- the member is the one that the envelope holds
abbrev pub IsHeldBy : Envelope → Member → Type 0
IsHeldBy envelope x =
    ShowMember envelope.decoded.now envelope.index envelope.ordinal envelope.place x

-- of a known member there is a view, which shows its value, and of an unknown one none
abbrev pub ShowsKnown : Option View → Member → Type 0
ShowsKnown found x = MatchOption found (known_of x ≡ None)
    (λ part. (v : Value) × (known_of x ≡ Some v) × IsShownBy part v)
