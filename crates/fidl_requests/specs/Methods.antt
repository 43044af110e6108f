-- Which ordinals are those of a method with a request (docs/service.md, "Answers").
use Rattle.std.specs.Prelude.{◌≡◌, ℕ, ◌⊎◌, Bool, IsTrue, IsFalse, List}
use Rattle.fidl_table_format.specs.declared.record.MethodRecord.{MethodRecord}
use Rattle.fidl_table_format.specs.Section.{header_of, method_at}
use Rattle.fidl_table_format.specs.Method.{has_request, has_response, method_number}
use Rattle.fidl_table_format.specs.Method.{IsMethodAt, HasNoMethod}
use Rattle.fidl_verify.specs.Lookups.{TableProtocol}

-- the record of the table's method of this number
abbrev pub record_of : (table : List ℕ) → (number : ℕ) → MethodRecord
record_of table number = method_at table (header_of table) number

-- the number of the protocol's method of an ordinal, which has a request
pub record IsRequested (p : TableProtocol) (ordinal number : ℕ) : Type 0 where
  pub place : ℕ
  pub at : IsMethodAt p.table (header_of p.table) p.number ordinal place
  pub is : number ≡ method_number p.table (header_of p.table) p.number place
  pub request : IsTrue (has_request (record_of p.table number))

-- the ordinal is that of an event of the protocol: a method that has no request
pub record IsEvent (p : TableProtocol) (ordinal : ℕ) : Type 0 where
  pub place : ℕ
  pub at : IsMethodAt p.table (header_of p.table) p.number ordinal place
  pub no_request : IsFalse (has_request (record_of p.table
      (method_number p.table (header_of p.table) p.number place)))

-- the ordinal is that of no method of the protocol, or that of an event
abbrev pub IsUnrequested : TableProtocol → (ordinal : ℕ) → Type 0
IsUnrequested p ordinal =
    HasNoMethod p.table (header_of p.table) p.number ordinal ⊎ IsEvent p ordinal

-- whether the method of this number has a response
abbrev pub is_two_way : (table : List ℕ) → (number : ℕ) → Bool
is_two_way table number = has_response (record_of table number)
