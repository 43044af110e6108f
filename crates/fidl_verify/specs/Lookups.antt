-- What the look-ups of protocols and methods give (docs/table.md, "Look-ups").
use Rattle.std.specs.Prelude.{ℕ, ◌<◌, ◌==◌, if◌then◌else◌, Bool, List}
use Rattle.fidl_table_format.specs.declared.record.ProtocolRecord.{ProtocolRecord}
use Rattle.fidl_table_format.specs.declared.record.MethodRecord.{MethodRecord}
use Rattle.fidl_table_format.specs.Section.{header_of, protocol_at, method_at}
use Rattle.fidl_table_format.specs.Method.{has_request, has_response, no_payload, HasPayload}
use Rattle.fidl_table_format.specs.WellFormed.{WellFormed}
use Rattle.fidl_verify.specs.declared.protocol.Openness.{Openness}
use Rattle.fidl_verify.specs.declared.protocol.Openness.TheVariants.{Closed, Ajar, Open}
use Rattle.fidl_verify.specs.declared.method.Payload.{Payload}
use Rattle.fidl_verify.specs.declared.method.Payload.TheVariants.{Missing, Empty, Entry}

-- a protocol of a table, by its number
pub record TableProtocol : Type 0 where
  pub table : List ℕ
  pub number : ℕ

-- a method of a table, by its number
pub record TableMethod : Type 0 where
  pub table : List ℕ
  pub number : ℕ

-- its record
abbrev pub protocol_record : TableProtocol → ProtocolRecord
protocol_record p = protocol_at p.table (header_of p.table) p.number

abbrev pub method_record : TableMethod → MethodRecord
method_record m = method_at m.table (header_of m.table) m.number

-- the table is well formed and has a protocol of this number
pub record IsProtocolOfTable (p : TableProtocol) : Type 0 where
  pub well_formed : WellFormed p.table
  pub within : p.number < (header_of p.table).protocols

-- the table is well formed and has a method of this number
pub record IsMethodOfTable (m : TableMethod) : Type 0 where
  pub well_formed : WellFormed m.table
  pub within : m.number < (header_of m.table).methods

-- the number that stands for it
abbrev pub openness_number : Openness → ℕ
openness_number Closed = 0
openness_number Ajar = 1
openness_number Open = 2

-- what a message carries, by whether there is such a message, and the number in its place
abbrev pub payload_of : (has_message : Bool) → (entry : ℕ) → Payload
payload_of has_message entry =
    if has_message then (if entry == no_payload then Empty else Entry entry) else Missing

-- where it is an entry, the table has that, and it is one that a payload may have
abbrev pub EntryHolds : List ℕ → Payload → Type 0
EntryHolds table Missing = Unit {0}
EntryHolds table Empty = Unit {0}
EntryHolds table (Entry e) = HasPayload table (header_of table) e

-- what the request of a method carries, and what its response does
abbrev pub request_of : MethodRecord → Payload
request_of m = payload_of (has_request m) m.request

abbrev pub response_of : MethodRecord → Payload
response_of m = payload_of (has_response m) m.response
