-- What a view of an entry's part holds: its value, its elements, its members, and how deep they are.
use Rattle.std.specs.Prelude.{◌≡◌, ◌≤◌, ℕ, List, false}
use Rattle.fidl_wire.specs.Value.{Value, Values, list, fields, known}
use Rattle.fidl_wire.specs.Term.{Term, resolve, find}
use Rattle.fidl_wire.specs.Term as ty
use Rattle.fidl_wire.specs.Figure.{Declarations}
use Rattle.fidl_wire.specs.Typed.{IsTyped, IsTypedMember}
use Rattle.fidl_wire.specs.Encoding.{element_of, content_of}
use Rattle.fidl_wire.specs.Depth.{depth_of, elements_depth, fields_depth, member_depth}
use Rattle.fidl_table_format.specs.Section.{header_of, entry_at}
use Rattle.fidl_table_format.specs.Terms.{declarations_of, fields_from, members_of}
use Rattle.fidl_view.specs.Shows.{Shows}
use Rattle.fidl_view.specs.declared.view.View.{View}

-- the view shows this value, which is one of the term
pub record IsPart (ds : Declarations) (t : Term) (view : View) (v : Value) : Type 0 where
  pub shown : Shows view.decoded.now view.index view.place v
  pub typed : IsTyped ds t v

-- the view shows a value of the term
abbrev pub HasPart : Declarations → Term → View → Type 0
HasPart ds t view = (v : Value) × IsPart ds t view v

-- the same, of a value of at most this depth
abbrev pub HasPartWithin : Declarations → Term → (depth : ℕ) → View → Type 0
HasPartWithin ds t depth view = (v : Value) × IsPart ds t view v × (depth_of ds t v ≤ depth)

-- the view shows a value of an entry of a table, of at most this depth
abbrev pub HasValueWithin : (table : List ℕ) (index depth : ℕ) → View → Type 0
HasValueWithin table index depth view = let ds = declarations_of table in
    HasPartWithin ds (resolve ds.terms (ty.named index)) depth view

-- the view shows these elements, each of this entry
pub record IsElements (table : List ℕ) (element : ℕ) (view : View) (t : Term) (vs : Values) : Type 0
  where
    pub part : IsPart (declarations_of table) t view (list vs)
    pub each : let ds = declarations_of table in element_of ds t
        ≡ resolve ds.terms (ty.named element)

-- the view shows some, each of at most this depth
abbrev pub HasElementsWithin : (table : List ℕ) (element depth : ℕ) → View → Type 0
HasElementsWithin table element depth view =
    let ds = declarations_of table in
    (t : Term) × (vs : Values) × IsElements table element view t vs
    × (elements_depth ds (resolve ds.terms (ty.named element)) vs ≤ depth)

-- the view shows these members, of the struct of this entry
pub record IsMembers (table : List ℕ) (index : ℕ) (view : View) (t : Term) (vs : Values) : Type 0
  where
    pub part : IsPart (declarations_of table) t view (fields vs)
    pub each : let e = entry_at table index in content_of (declarations_of table) t
        ≡ fields_from table (header_of table) e.first e.count

-- the view shows some, each of at most this depth
abbrev pub HasMembersWithin : (table : List ℕ) (index depth : ℕ) → View → Type 0
HasMembersWithin table index depth view =
    (t : Term) × (vs : Values) × IsMembers table index view t vs
    × (let e = entry_at table index in
    fields_depth (declarations_of table) (fields_from table (header_of table) e.first e.count)
    vs ≤ depth)

-- the view shows this value, which is one of the entry's type
abbrev pub IsValueOf : (table : List ℕ) (index : ℕ) → View → Value → Type 0
IsValueOf table index view v = let ds = declarations_of table in
    IsPart ds (resolve ds.terms (ty.named index)) view v

-- the view shows this value, which is one of the type that the layout gives to the ordinal
pub record IsMember (table : List ℕ) (index ordinal : ℕ) (view : View) (v : Value) : Type 0 where
  pub shown : Shows view.decoded.now view.index view.place v
  pub typed : IsTypedMember (declarations_of table) false
      (find (members_of table index) ordinal) (known v)

-- the view shows some, and the member lies no deeper than the slot's depth
abbrev pub HasMemberWithin : (table : List ℕ) (index ordinal depth : ℕ) → View → Type 0
HasMemberWithin table index ordinal depth view = (v : Value) × IsMember table index ordinal view v
    × (member_depth (declarations_of table) (find (members_of table index) ordinal)
    (known v) ≤ depth)
