-- The work of a value: the least steps that decoding it takes (docs/decoding.md, "Steps").
use Rattle.std.specs.Prelude.{ℕ, suc, ◌+◌, length}
use Rattle.fidl_wire.specs.Value.{Value, absent, bool, number, text, list, fields, handle, table}
use Rattle.fidl_wire.specs.Value.{union, Values, none, value, Member, known, unknown, Members}
use Rattle.fidl_wire.specs.Value.{empty, member}

abbrev mutual
  -- the bytes of all texts in a value, and one for each value in it, itself too, that is no number,
  -- and for each unknown member
  pub Work : Value → ℕ
  Work absent = 1
  Work (bool b) = 1
  Work (number z) = 0
  Work (text bytes) = suc (length bytes)
  Work (list vs) = suc (values_work vs)
  Work (fields vs) = suc (values_work vs)
  Work (handle h) = 1
  Work (table n ms) = suc (members_work ms)
  Work (union ordinal m) = suc (member_work m)

  -- the sum over elements, or a struct's members
  pub values_work : Values → ℕ
  values_work none = 0
  values_work (value v vs) = Work v + values_work vs

  -- an unknown member counts one
  pub member_work : Member → ℕ
  member_work (known v) = Work v
  member_work (unknown inline bytes handles) = 1

  -- the sum over a table's members
  pub members_work : Members → ℕ
  members_work empty = 0
  members_work (member ordinal m ms) = member_work m + members_work ms
