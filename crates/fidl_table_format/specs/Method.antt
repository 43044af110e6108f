-- The rules of a method, what its messages carry, and finding one of a protocol (docs/table.md,
-- "Verification").
use Rattle.std.specs.Prelude.{◌≡◌, ◌≢◌, ℕ, suc, ◌+◌, ◌/◌, ◌%◌, ◌^◌, ◌<◌, ◌==◌, ◌||◌, ◌⊎◌, List}
use Rattle.std.specs.Prelude.{Bool, IsTrue, IsFalse}
use Rattle.fidl_table_format.specs.declared.record.Header.{Header}
use Rattle.fidl_table_format.specs.declared.record.Entry.{Entry}
use Rattle.fidl_table_format.specs.declared.record.MethodRecord.{MethodRecord}
use Rattle.fidl_table_format.specs.declared.kind.EntryKind.TheVariants.{Struct, Table, Union}
use Rattle.fidl_table_format.specs.Section.{entry_at, protocol_at, method_at, name_at}
use Rattle.fidl_table_format.specs.Terms.{is_optional}
use Rattle.fidl_table_format.specs.Entry.{IsOf}
use Rattle.fidl_table_format.specs.Name.{IsFullName}
use Rattle.fidl_table_format.specs.Protocol.{IsMethodOf, methods_before}

-- the method has flag 1
abbrev pub is_strict : MethodRecord → Bool
is_strict m = m.flags % 2 == 1

-- the method has flag 2
abbrev pub has_request : MethodRecord → Bool
has_request m = m.flags / 2 % 2 == 1

-- the method has flag 4
abbrev pub has_response : MethodRecord → Bool
has_response m = m.flags / 4 % 2 == 1

-- what stands in place of the entry of a payload where there is none
abbrev pub no_payload : ℕ
no_payload = 0xffffffff

-- an entry that a payload may have: a struct, a table, or a union that isn't optional
abbrev pub IsPayload : Entry → Type 0
IsPayload e = IsOf Struct e ⊎ IsOf Table e ⊎ (IsOf Union e × IsFalse (is_optional e))

-- the entry of a payload exists and may be one
pub record HasPayload (bytes : List ℕ) (h : Header) (entry : ℕ) : Type 0 where
  pub within : entry < h.entries
  pub is : IsPayload (entry_at bytes entry)

-- a message without a payload, or one with it, which the method then has
abbrev pub PayloadHolds : List ℕ → Header → (has_message : Bool) → (entry : ℕ) → Type 0
PayloadHolds bytes h has_message entry =
    (entry ≡ no_payload) ⊎ (IsTrue has_message × HasPayload bytes h entry)

-- a request or a response, each with a payload that may be one
pub record MessagesHold (bytes : List ℕ) (h : Header) (m : MethodRecord) : Type 0 where
  pub some : IsTrue (has_request m || has_response m)
  pub request : PayloadHolds bytes h (has_request m) m.request
  pub response : PayloadHolds bytes h (has_response m) m.response

-- an ordinal of 63 bits that isn't 0, known flags, zero where nothing is stated, and messages that
-- the method may have
pub record HasMethodShape (bytes : List ℕ) (h : Header) (m : MethodRecord) : Type 0 where
  pub some : 0 < m.ordinal
  pub low : m.ordinal < 2 ^ 63
  pub flags : m.flags < 8
  pub reserved : m.reserved ≡ 0
  pub messages : MessagesHold bytes h m

-- the method has a name that isn't empty
abbrev pub HasMethodName : List ℕ → Header → MethodRecord → Type 0
HasMethodName bytes h m = IsFullName bytes h m.name_place m.name_length

-- the ordinal of the method of this number
abbrev pub ordinal_at : List ℕ → Header → (index : ℕ) → ℕ
ordinal_at bytes h index = (method_at bytes h index).ordinal

-- the ordinal is greater than that of the method before in the same protocol
abbrev pub OrdinalRises : List ℕ → Header → (index : ℕ) → Type 0
OrdinalRises bytes h index =
    (before protocol : ℕ) → suc before ≡ index → protocol < h.protocols
    → IsMethodOf bytes h protocol before → IsMethodOf bytes h protocol index
    → ordinal_at bytes h before < ordinal_at bytes h index

-- all the rules of the method of this number
pub record IsMethod (bytes : List ℕ) (h : Header) (index : ℕ) : Type 0 where
  pub shape : HasMethodShape bytes h (method_at bytes h index)
  pub name : HasMethodName bytes h (method_at bytes h index)
  pub rises : OrdinalRises bytes h index

-- the name of the method of this number
abbrev pub method_name : List ℕ → Header → (index : ℕ) → List ℕ
method_name bytes h index = let m = method_at bytes h index in
    name_at bytes h m.name_place m.name_length

-- the number of a method by its place in its protocol
abbrev pub method_number : List ℕ → Header → (protocol place : ℕ) → ℕ
method_number bytes h protocol place = methods_before bytes h protocol + place

-- the place of the first method of this name in a protocol
pub record IsFirstMethod (bytes : List ℕ) (h : Header) (protocol : ℕ) (name : List ℕ) (place : ℕ)
    : Type 0 where
  pub within : place < (protocol_at bytes h protocol).methods
  pub named : method_name bytes h (method_number bytes h protocol place) ≡ name
  pub first : (k : ℕ) → k < place → method_name bytes h (method_number bytes h protocol k) ≢ name

-- no method of a protocol has this name
abbrev pub HasNoMethodNamed : List ℕ → Header → (protocol : ℕ) → (name : List ℕ) → Type 0
HasNoMethodNamed bytes h protocol name =
    (place : ℕ) → place < (protocol_at bytes h protocol).methods
    → method_name bytes h (method_number bytes h protocol place) ≢ name

-- the place of the method of this ordinal in a protocol
pub record IsMethodAt (bytes : List ℕ) (h : Header) (protocol ordinal place : ℕ) : Type 0 where
  pub within : place < (protocol_at bytes h protocol).methods
  pub is : ordinal_at bytes h (method_number bytes h protocol place) ≡ ordinal

-- no method of a protocol has this ordinal
abbrev pub HasNoMethod : List ℕ → Header → (protocol ordinal : ℕ) → Type 0
HasNoMethod bytes h protocol ordinal =
    (place : ℕ) → place < (protocol_at bytes h protocol).methods
    → ordinal_at bytes h (method_number bytes h protocol place) ≢ ordinal
