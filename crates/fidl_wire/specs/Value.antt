-- A value as plain data (docs/wire.md, "Values").
use Rattle.std.specs.Prelude.{ℕ, suc, ℤ, List, [], ◌∷◌, Bool}
use Rattle.fidl_wire.specs.declared.handle.HandleInfo.{HandleInfo}

mutual
  -- a value of any type; bits and enums are numbers, arrays are lists, present boxes are their
  -- struct's fields
  pub data Value : Type 0 where
    absent : Value
    bool : Bool → Value
    number : ℤ → Value
    text : List ℕ → Value
    list : Values → Value
    fields : Values → Value
    handle : HandleInfo → Value
    table : (count : ℕ) → Members → Value
    union : (ordinal : ℕ) → Member → Value

  -- elements, or a struct's fields, in order
  pub data Values : Type 0 where
    none : Values
    value : Value → Values → Values

  -- what a table or union holds at an ordinal: a value, or the raw parts of a member that its
  -- layout doesn't know
  pub data Member : Type 0 where
    known : Value → Member
    unknown : (inline : Bool) (bytes : List ℕ) (handles : List HandleInfo) → Member

  -- a table's members, each with its ordinal
  pub data Members : Type 0 where
    empty : Members
    member : (ordinal : ℕ) → Member → Members → Members

-- how many values there are
abbrev pub count : Values → ℕ
count none = 0
count (value v vs) = suc (count vs)

-- the values of a list
abbrev pub values_of : List Value → Values
values_of [] = none
values_of (v ∷ vs) = value v (values_of vs)

-- the members of a list of ordinals and members
abbrev pub members_of : List (ℕ × Member) → Members
members_of [] = empty
members_of (m ∷ ms) = member m.0 m.1 (members_of ms)
