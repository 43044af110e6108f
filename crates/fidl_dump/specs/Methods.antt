-- Which method of a protocol an ordinal names, and what its messages carry (docs/program.md, "dump").
use Rattle.std.specs.Prelude.{◌≡◌, ℕ, ◌⊎◌, List}
use Rattle.fidl_table_format.specs.declared.record.MethodRecord.{MethodRecord}
use Rattle.fidl_table_format.specs.Section.{header_of}
use Rattle.fidl_table_format.specs.Method.{method_name, method_number, IsMethodAt, HasNoMethod}
use Rattle.fidl_verify.specs.declared.method.Payload.{Payload}
use Rattle.fidl_verify.specs.declared.method.Payload.TheVariants.{Missing}
use Rattle.fidl_verify.specs.Lookups.{TableProtocol, request_of, response_of}
use Rattle.fidl_requests.specs.Methods.{record_of}
use Rattle.fidl_dump.specs.declared.direction.Direction.{Direction}
use Rattle.fidl_dump.specs.declared.direction.Direction.TheVariants.{Requests, Responses}

-- what the method's messages of this direction carry
abbrev pub carried_by : Direction → MethodRecord → Payload
carried_by Requests m = request_of m
carried_by Responses m = response_of m

-- the ordinal is that of the protocol's method of this number
pub record NamesMethod (p : TableProtocol) (ordinal number : ℕ) : Type 0 where
  pub place : ℕ
  pub at : IsMethodAt p.table (header_of p.table) p.number ordinal place
  pub is : number ≡ method_number p.table (header_of p.table) p.number place

-- what messages of this direction carry, of the method of this number
abbrev pub carried_of : (table : List ℕ) → Direction → (number : ℕ) → Payload
carried_of table direction number = carried_by direction (record_of table number)

-- the ordinal is that of no method of the protocol, or of one without messages of this direction
abbrev pub IsUnknown : TableProtocol → Direction → (ordinal : ℕ) → Type 0
IsUnknown p direction ordinal = HasNoMethod p.table (header_of p.table) p.number ordinal
    ⊎ ((number : ℕ) × NamesMethod p ordinal number
    × (carried_of p.table direction number ≡ Missing))

-- the full name of the method of this number
abbrev pub full_name_of : (table : List ℕ) → (number : ℕ) → List ℕ
full_name_of table number = method_name table (header_of table) number
