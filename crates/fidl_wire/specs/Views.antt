-- What a tree of the code stands for: steps say it of one level, with what the parts stand for in
-- their places, and folds of a whole tree.
use Rattle.std.specs.Prelude.{ℕ, List, map}
use Rattle.fidl_wire.specs.Value as data_of
use Rattle.fidl_wire.specs.declared.value.Value.{Value, Value-F, fold-Value}
use Rattle.fidl_wire.specs.declared.value.Member.{Member, Member-F, fold-Member}
use Rattle.fidl_wire.specs.declared.value.Values.{Values}
use Rattle.fidl_wire.specs.declared.value.Members.{Members}
use Rattle.fidl_wire.specs.declared.value.Content.{Content}

-- a value, by its variant
abbrev value_step : Value-F data_of.Member data_of.Value data_of.Member data_of.Members
    data_of.Values → data_of.Value
value_step Value-F.Absent = data_of.absent
value_step (Value-F.Bool b) = data_of.bool b
value_step (Value-F.Number n) = data_of.number n
value_step (Value-F.Text bytes) = data_of.text bytes
value_step (Value-F.List vs) = data_of.list vs
value_step (Value-F.Fields vs) = data_of.fields vs
value_step (Value-F.Handle h) = data_of.handle h
value_step (Value-F.Table n ms) = data_of.table n ms
value_step (Value-F.Union ordinal m) = data_of.union ordinal m

-- a member, by its variant
abbrev member_step : Member-F data_of.Member data_of.Value data_of.Member data_of.Members
    data_of.Values → data_of.Member
member_step (Member-F.Known v) = data_of.known v
member_step (Member-F.Unknown inline bytes handles) = data_of.unknown inline bytes handles

-- the value of a tree
abbrev pub value_view : Value → data_of.Value
value_view =
    fold-Value _ _ _ _ _ member_step value_step (λ c. c.member.value)
    (λ ms. data_of.members_of ms.entries.items) (λ vs. data_of.values_of vs.items.items)

-- the member of a tree
abbrev pub member_view : Member → data_of.Member
member_view =
    fold-Member _ _ _ _ _ member_step value_step (λ c. c.member.value)
    (λ ms. data_of.members_of ms.entries.items) (λ vs. data_of.values_of vs.items.items)

-- the member of a union
abbrev pub content_view : Content → data_of.Member
content_view c = member_view c.member.value

-- the values of a list, in order
abbrev pub values_view : Values → List data_of.Value
values_view vs = map value_view vs.items.items

-- a member with its ordinal
abbrev pub entry_view : ℕ × Member → ℕ × data_of.Member
entry_view m = (m.0, member_view m.1)

-- the members of a table with their ordinals, in order
abbrev pub members_view : Members → List (ℕ × data_of.Member)
members_view ms = map entry_view ms.entries.items
