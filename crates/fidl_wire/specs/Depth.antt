-- How many out-of-line objects lie behind one another (docs/wire.md, "Depth").
use Rattle.std.specs.Prelude.{ℕ, suc, max, true, false, if◌then◌else◌, nat_le, Option}
use Rattle.fidl_wire.specs.Value.{Value, absent, bool, number, text, list, fields, handle, table}
use Rattle.fidl_wire.specs.Value.{union, Values, none, value, Member, known, unknown, Members}
use Rattle.fidl_wire.specs.Value.{empty, member}
use Rattle.fidl_wire.specs.Term.{Term, vector, box, Fields, no_fields, field, Rows, resolve}
use Rattle.fidl_wire.specs.Term.{rows_of, find}
use Rattle.fidl_wire.specs.Figure.{Declarations, size_of}
use Rattle.fidl_wire.specs.Encoding.{element_of, content_of, term_or}

-- one more behind a vector and a box
abbrev pub below : Term → ℕ → ℕ
below (vector optional bound t) n = suc n
below (box t) n = suc n
below _ n = n

abbrev mutual
  -- the depth of a value of a term that is no name: a present text, vector, table and box count one
  -- more than what they hold
  pub depth_of : Declarations → Term → Value → ℕ
  depth_of ds t absent = 0
  depth_of ds t (bool b) = 0
  depth_of ds t (number z) = 0
  depth_of ds t (handle h) = 0
  depth_of ds t (text bytes) = 1
  depth_of ds t (list vs) = below t (elements_depth ds (element_of ds t) vs)
  depth_of ds t (fields vs) = below t (fields_depth ds (content_of ds t) vs)
  depth_of ds t (table n ms) = suc (members_depth ds (rows_of t) ms)
  depth_of ds t (union ordinal m) = member_depth ds (find (rows_of t) ordinal) m

  -- the greatest of the elements, 0 where there are none
  pub elements_depth : Declarations → Term → Values → ℕ
  elements_depth ds t none = 0
  elements_depth ds t (value v vs) = max (depth_of ds t v) (elements_depth ds t vs)

  -- the greatest of a struct's members
  pub fields_depth : Declarations → Fields → Values → ℕ
  fields_depth ds fs none = 0
  fields_depth ds no_fields (value v vs) = 0
  fields_depth ds (field name t fs) (value v vs) =
      max (depth_of ds (resolve ds.terms t) v) (fields_depth ds fs vs)

  -- a member counts nothing inline, and one more than its value out of line; an unknown one counts
  -- one there
  pub member_depth : Declarations → Option Term → Member → ℕ
  member_depth ds t (known v) =
      if nat_le (size_of ds (term_or t)) 4 then 0 else suc
      (depth_of ds (resolve ds.terms (term_or t)) v)
  member_depth ds t (unknown true bytes handles) = 0
  member_depth ds t (unknown false bytes handles) = 1

  -- the greatest of a table's members
  pub members_depth : Declarations → Rows → Members → ℕ
  members_depth ds rows empty = 0
  members_depth ds rows (member ordinal m ms) =
      max (member_depth ds (find rows ordinal) m) (members_depth ds rows ms)

-- the depth of a value of the term
abbrev pub Depth : Declarations → Term → Value → ℕ
Depth ds t v = depth_of ds (resolve ds.terms t) v
