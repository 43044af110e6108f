-- What methods of the code are as plain data, and the list that the code gives of a protocol's
-- members (docs/language.md, "Methods").
use Rattle.std.specs.Prelude.{ℕ, ◌≡◌, ◌<◌, List, Some, map, slice_get}
use Rattle.std.specs.List.{Contains, AllByRecursion, AllPairs}
use Rattle.fidl_span.specs.declared.words.Span.{Span}
use Rattle.fidl_tree.specs.Syntax.{File, ProtocolMember}
use Rattle.fidl_tree.specs.Views.{attributes_view}
use Rattle.fidl_method_rules.specs.declared.member.Method.{Method}
use Rattle.fidl_method_rules.specs.declared.methods.OwnMethod.{OwnMethod}
use Rattle.fidl_method_rules.specs.Methods as plain
use Rattle.fidl_method_rules.specs.Methods.{method_of, OrdinalIs}

-- the plain data of a method
abbrev pub method_view : Method → plain.Method
method_view m = record {
  attributes = attributes_view m.attributes.now;
  name = m.name;
  is_strict = m.is_strict;
  is_two_way = m.is_two_way;
}

-- an entry says of a member of the protocol of this name what it is: a method with the entry's
-- name, strictness and ordinal
pub record IsEntryOf (f : File) (protocol : Span) (member : ProtocolMember) (own : OwnMethod)
    : Type 0 where
  pub method : plain.Method
  pub is : method_of member ≡ Some method
  pub name : own.name ≡ method.name
  pub strict : own.is_strict ≡ method.is_strict
  pub ordinal : OrdinalIs f protocol method own.ordinal

-- the member of an entry's number is what it says
pub record IsEntry (f : File) (protocol : Span) (members : List ProtocolMember) (own : OwnMethod)
    : Type 0 where
  pub member : ProtocolMember
  pub stands : slice_get members own.member ≡ Some member
  pub entry : IsEntryOf f protocol member own

-- the numbers of the members that entries are of
abbrev pub member_numbers : List OwnMethod → List ℕ
member_numbers owns = map (λ own. own.member) owns

-- entries are of just the methods among the members of the protocol of this name, each once, in
-- their order
pub record AreMethods (f : File) (protocol : Span) (members : List ProtocolMember)
    (owns : List OwnMethod) : Type 0 where
  pub entries : AllByRecursion (IsEntry f protocol members) owns
  pub all : (number : ℕ) (member : ProtocolMember) (m : plain.Method)
      → slice_get members number ≡ Some member → method_of member ≡ Some m
      → Contains (member_numbers owns) number
  pub rising : AllPairs (λ earlier later. earlier < later) (member_numbers owns)
