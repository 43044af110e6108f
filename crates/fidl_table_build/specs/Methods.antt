-- The protocols of a table and their methods, as the listing has them (docs/table.md,
-- "Assembling").
use Rattle.std.specs.Prelude.{ℕ, ◌≡◌, List, Some, length, slice_get}
use Rattle.fidl_wire.specs.Term.{Term}
use Rattle.fidl_table_format.specs.Section.{header_of, protocol_at, method_at}
use Rattle.fidl_table_format.specs.Protocol.{protocol_name}
use Rattle.fidl_table_format.specs.Method.{is_strict, has_request, has_response, method_name}
use Rattle.fidl_table_format.specs.Method.{method_number}
use Rattle.fidl_verify.specs.Lookups.{openness_number, payload_of}
use Rattle.fidl_verify.specs.declared.method.Payload.{Payload}
use Rattle.fidl_verify.specs.declared.method.Payload.TheVariants as payload
use Rattle.fidl_table_build.specs.declared.listing.Carried.{Carried}
use Rattle.fidl_table_build.specs.declared.listing.Carried.TheVariants.{Missing, Empty, Definition}
use Rattle.fidl_table_build.specs.declared.listing.MethodEntry.{MethodEntry}
use Rattle.fidl_table_build.specs.declared.listing.ProtocolEntry.{ProtocolEntry}
use Rattle.fidl_table_build.specs.Roots.{IsEntryOf}

-- a message carries in the table what the listing says: a definition is there by its entry
abbrev pub ShowsPayload : List Term → Carried → Payload → Type 0
ShowsPayload types Missing p = p ≡ payload.Missing
ShowsPayload types Empty p = p ≡ payload.Empty
ShowsPayload types (Definition i) p =
    (entry : ℕ) × (p ≡ payload.Entry entry) × IsEntryOf types i entry

-- the method of this number is as the listing has it
pub record ShowsMethod (types : List Term) (bytes : List ℕ) (m : MethodEntry) (number : ℕ)
    : Type 0 where
  pub ordinal : (method_at bytes (header_of bytes) number).ordinal ≡ m.ordinal
  pub name : method_name bytes (header_of bytes) number ≡ m.name.items
  pub strict : is_strict (method_at bytes (header_of bytes) number) ≡ m.strict
  pub request : let r = method_at bytes (header_of bytes) number in
      ShowsPayload types m.request (payload_of (has_request r) r.request)
  pub response : let r = method_at bytes (header_of bytes) number in
      ShowsPayload types m.response (payload_of (has_response r) r.response)

-- the protocol of this number is as the listing has it, with just its methods in their order
pub record ShowsProtocol (types : List Term) (bytes : List ℕ) (p : ProtocolEntry) (number : ℕ)
    : Type 0 where
  pub name : protocol_name bytes (header_of bytes) number ≡ p.name.items
  pub openness : (protocol_at bytes (header_of bytes) number).openness
      ≡ openness_number p.openness
  pub count : (protocol_at bytes (header_of bytes) number).methods ≡ length p.methods.items
  pub methods : (k : ℕ) (m : MethodEntry) → slice_get p.methods.items k ≡ Some m
      → ShowsMethod types bytes m (method_number bytes (header_of bytes) number k)

-- the protocols are these, in this order, and no other
pub record ShowsProtocols (types : List Term) (ps : List ProtocolEntry) (bytes : List ℕ)
    : Type 0 where
  pub count : (header_of bytes).protocols ≡ length ps
  pub each : (k : ℕ) (p : ProtocolEntry) → slice_get ps k ≡ Some p → ShowsProtocol types bytes p k
