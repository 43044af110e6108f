-- Values that could stand in a message at a place, and where they lead.
use Rattle.std.specs.Prelude.{◌≡◌, ℕ, suc, ◌+◌, ◌-◌, ◌*◌, ◌/◌, ◌≤◌, Bool, true, false, nat_le, List}
use Rattle.std.specs.Prelude.{[], ◌∷◌, length, slice_set, Option}
use Rattle.std.specs.Int.{next_multiple_of}
use Rattle.fidl_wire.specs.declared.handle.HandleInfo.{HandleInfo}
use Rattle.fidl_limits.specs.declared.limits.TheConstants.{MAX_DEPTH}
use Rattle.fidl_wire.specs.Value.{Value, absent, bool, number, text, list, fields, handle, table}
use Rattle.fidl_wire.specs.Value.{union, Values, none, value, Member, known, unknown, empty, member}
use Rattle.fidl_wire.specs.Value as tree
use Rattle.fidl_wire.specs.Term.{Term, Fields, no_fields, field, Rows, resolve, rows_of, find}
use Rattle.fidl_wire.specs.Term as ty
use Rattle.fidl_wire.specs.Figure.{Declarations, figure_of, size_of}
use Rattle.fidl_wire.specs.Typed.{IsTyped, RiseTyped}
use Rattle.fidl_wire.specs.Encoding.{Encoding, encoding_of, elements, members, element_of}
use Rattle.fidl_wire.specs.Encoding.{content_of, term_or, envelopes}
use Rattle.fidl_wire.specs.Depth.{depth_of, members_depth}
use Rattle.fidl_wire.specs.Standing.{Stands, Carries}
use Rattle.fidl_decode_model.specs.Rows.{Row, TypedRows, enc_rows, depth_rows}

-- bytes and handles
pub record Message : Type 0 where
  pub bytes : List ℕ
  pub handles : List HandleInfo

-- how far a message is read: the place of the next object out of line, the next handle, and the
-- links that are noted: for each eight bytes where the object of the marker or envelope there
-- begins, for each four the record of the handle there, counted from 1; the second half of an
-- envelope has the first record of its member; 0 is no link
pub record Position : Type 0 where
  pub next : ℕ
  pub handle : ℕ
  pub objects : List ℕ
  pub records : List ℕ

-- the handle at a place has the next record
abbrev pub taken : (place : ℕ) → Position → Position
taken place s =
    record {
      next = s.next;
      handle = s.handle + 1;
      objects = s.objects;
      records =
          slice_set s.records (place / 4) (s.handle + 1);
    }

-- this many handles are read
abbrev pub passed : ℕ → Position → Position
passed n s =
    record { next = s.next; handle = s.handle + n; objects = s.objects; records = s.records }

-- the handles of the member in the envelope at a place begin with the next one
abbrev pub opened : (place : ℕ) → Position → Position
opened place s =
    record {
      next = s.next;
      handle = s.handle;
      objects = s.objects;
      records =
          slice_set s.records ((place + 4) / 4) (s.handle + 1);
    }

-- the object of a marker or envelope is the next one, of this size, padded to a multiple of 8
abbrev pub linked : (marker size : ℕ) → Position → Position
linked marker size s =
    record {
      next = s.next + next_multiple_of size 8;
      handle = s.handle;
      objects =
          slice_set s.objects (marker / 8) s.next;
      records = s.records;
    }

-- where the content of a value at a place stands: that of a vector or box is the next object
abbrev pub held_at : Term → (place : ℕ) → Position → ℕ
held_at (ty.vector optional bound t) place s = s.next
held_at (ty.box t) place s = s.next
held_at _ place s = place

-- the state before that content, which has this size
abbrev pub entered : Term → (place size : ℕ) → Position → Position
entered (ty.vector optional bound t) place size s = linked (place + 8) size s
entered (ty.box t) place size s = linked place size s
entered _ place size s = s

-- where the member of an envelope at a place stands: in the envelope, or as the next object
abbrev pub member_at : (inline : Bool) → (place : ℕ) → Position → ℕ
member_at true place s = place
member_at false place s = s.next

-- the state before that member, which has this size
abbrev pub begun : (inline : Bool) → (place size : ℕ) → Position → Position
begun true place size s = opened place s
begun false place size s = linked place size (opened place s)

-- where the envelope of an ordinal stands, of those from a base on
abbrev pub envelope_place : (base ordinal : ℕ) → ℕ
envelope_place base ordinal = base + 8 * (ordinal - 1)

-- the size of the elements of a vector or array
abbrev pub element_size : Declarations → Term → ℕ
element_size ds (ty.vector optional bound t) = size_of ds t
element_size ds (ty.array t n) = size_of ds t
element_size ds _ = 0

abbrev mutual
  -- where a value at a place leads, of a term that is no name: what is behind it is read, and
  -- linked
  pub after : Declarations → Term → Value → (place : ℕ) → Position → Position
  after ds t absent place s = s
  after ds t (bool b) place s = s
  after ds t (number z) place s = s
  after ds t (handle h) place s = taken place s
  after ds t (text bytes) place s = linked (place + 8) (length bytes) s
  after ds t (list vs) place s =
      after_elements ds (element_of ds t) (element_size ds t) vs (held_at t place s)
      (entered t place (length (elements ds (element_of ds t) vs).inline) s)
  after ds t (fields vs) place s = let fs = content_of ds t in
      after_fields ds fs 0 vs (held_at t place s)
      (entered t place (length (members ds (size_of ds (ty.struct fs)) 0 fs vs).inline) s)
  after ds t (table n ms) place s =
      after_envelopes ds (rows_of t) ms s.next (linked (place + 8) (8 * n) s)
  after ds t (union ordinal m) place s = after_member ds (find (rows_of t) ordinal) m (place + 8) s

  -- the same of elements of this size, the first of them at a place
  pub after_elements : Declarations → Term → (size : ℕ) → Values → (place : ℕ) → Position → Position
  after_elements ds t size none place s = s
  after_elements ds t size (value v vs) place s =
      after_elements ds t size vs (place + size) (after ds t v place s)

  -- the same of members that begin behind `from`, in a struct at a base
  pub after_fields : Declarations → Fields → (from : ℕ) → Values → (base : ℕ) → Position → Position
  after_fields ds fs from none base s = s
  after_fields ds no_fields from (value v vs) base s = s
  after_fields ds (field name t fs) from (value v vs) base s =
      let f = figure_of ds.figures t in
      let at = next_multiple_of from f.align in
      after_fields ds fs (at + f.size) vs base (after ds (resolve ds.terms t) v (base + at) s)

  -- the same of the member of an envelope at a place
  pub after_member : Declarations → Option Term → Member → (place : ℕ) → Position → Position
  after_member ds t (known v) place s = let size = size_of ds (term_or t) in
      after ds (resolve ds.terms (term_or t)) v (member_at (nat_le size 4) place s)
      (begun (nat_le size 4) place size s)
  after_member ds t (unknown inline bytes handles) place s =
      passed (length handles) (begun inline place (length bytes) s)

  -- the same of a table's members, whose envelopes stand from a base on
  pub after_envelopes : Declarations → Rows → tree.Members → (base : ℕ) → Position → Position
  after_envelopes ds rows empty base s = s
  after_envelopes ds rows (member ordinal m ms) base s =
      after_envelopes ds rows ms base
      (after_member ds (find rows ordinal) m (envelope_place base ordinal) s)

-- the same of rows
abbrev pub after_rows : Declarations → List Row → Values → (base : ℕ) → Position → Position
after_rows ds rs none base s = s
after_rows ds [] (value v vs) base s = s
after_rows ds (r ∷ rs) (value v vs) base s =
    after_rows ds rs vs base (after ds (resolve ds.terms (ty.named r.entry)) v (base + r.offset) s)

-- an encoding stands in a message: its inline part at a place, what lies below it and its handles
-- from a state on
pub record StandsAt (m : Message) (e : Encoding) (place : ℕ) (from : Position) : Type 0 where
  pub inline : Stands m.bytes place e.inline
  pub out : Stands m.bytes from.next e.out
  pub carried : Carries m.handles from.handle e.handles

-- a value of the term, which is no name, stands at a place, below this depth, and leads from one
-- state to another
pub record ValueAt (ds : Declarations) (m : Message) (held : ℕ) (t : Term) (place : ℕ)
    (from to : Position) : Type 0 where
  pub value : Value
  pub typed : IsTyped ds t value
  pub shallow : depth_of ds t value + held ≤ MAX_DEPTH
  pub stands : StandsAt m (encoding_of ds t value) place from
  pub end : to ≡ after ds t value place from

-- the same of rows, where `done` bytes of their holder are read
pub record Members (ds : Declarations) (m : Message) (held size base done : ℕ) (rs : List Row)
    (from to : Position) : Type 0 where
  pub values : Values
  pub typed : TypedRows ds rs values
  pub shallow : depth_rows ds rs values + held ≤ MAX_DEPTH
  pub stands : StandsAt m (enc_rows ds size done rs values) (base + done) from
  pub end : to ≡ after_rows ds rs values base from

-- the same of the members of a table with these rows, whose count is n: those behind the first
-- `read` envelopes, which stand from a base on
pub record Slots (ds : Declarations) (m : Message) (held : ℕ) (rows : Rows) (read n base : ℕ)
    (from to : Position) : Type 0 where
  pub members : tree.Members
  pub typed : RiseTyped ds rows read n members
  pub shallow : members_depth ds rows members + held ≤ MAX_DEPTH
  pub stands : StandsAt m (envelopes ds rows (suc read) n members) (base + 8 * read) from
  pub end : to ≡ after_envelopes ds rows members base from
