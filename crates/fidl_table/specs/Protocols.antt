-- The protocols of a written table (docs/table.md, "What is written").
use Rattle.std.specs.Prelude.{ℕ, ◌≡◌, ◌<◌, [], ◌∷◌, List, Some, length, slice_get}
use Rattle.std.specs.List.{Contains}
use Rattle.fidl_span.specs.declared.words.Span.{Span}
use Rattle.fidl_tree.specs.Syntax.{Openness, closed_protocol, ajar_protocol, open_protocol}
use Rattle.fidl_tree.specs.Syntax.{ProtocolMember}
use Rattle.fidl_tree.specs.Views.{file_view}
use Rattle.fidl_tree.specs.declared.file.File.{File}
use Rattle.fidl_declarations.specs.declared.step.Step.TheVariants as step
use Rattle.fidl_declarations.specs.Forms.{name_by_path}
use Rattle.fidl_wire.specs.Figure.{Declarations}
use Rattle.fidl_composition.specs.Protocols.{IsProtocolAt}
use Rattle.fidl_payloads.specs.declared.payload.Payload.{Payload as Carried}
use Rattle.fidl_payloads.specs.declared.payload.Payload.TheVariants.{Missing, Empty}
use Rattle.fidl_payloads.specs.declared.payload.Payload.TheVariants as carried
use Rattle.fidl_protocol.specs.declared.method.Method.{Method}
use Rattle.fidl_protocol.specs.declared.method.Protocol.{Protocol}
use Rattle.fidl_protocol.specs.Checked.{AreProtocolsWith}
use Rattle.fidl_table_format.specs.Section.{header_of, protocol_at, method_at}
use Rattle.fidl_table_format.specs.Protocol.{protocol_name}
use Rattle.fidl_table_format.specs.Method.{is_strict, method_name, method_number}
use Rattle.fidl_verify.specs.declared.method.Payload.{Payload}
use Rattle.fidl_verify.specs.declared.method.Payload.TheVariants as payload
use Rattle.fidl_verify.specs.Lookups.{request_of, response_of}
use Rattle.fidl_table.specs.Definitions.{ShowsDefinition}

-- the number that stands for an openness in a table
abbrev pub openness_number : Openness → ℕ
openness_number closed_protocol = 0
openness_number ajar_protocol = 1
openness_number open_protocol = 2

-- a message carries in the table what it does in the library
abbrev pub ShowsPayload : List File → Declarations → List ℕ → Carried → Payload → Type 0
ShowsPayload files ds bytes Missing p = p ≡ payload.Missing
ShowsPayload files ds bytes Empty p = p ≡ payload.Empty
ShowsPayload files ds bytes (carried.«Type» i) p =
    (entry : ℕ) × (p ≡ payload.Entry entry) × ShowsDefinition files ds bytes i entry

-- the method of this number is one of the library: its full name by the protocol that declares it,
-- its ordinal, whether it is strict, and what its messages carry
pub record ShowsMethod (files : List File) (ds : Declarations) (bytes : List ℕ) (m : Method)
    (number : ℕ) : Type 0 where
  pub ordinal : (method_at bytes (header_of bytes) number).ordinal ≡ m.own.ordinal
  pub name : (f : File) (openness : Openness) (protocol : Span) (members : List ProtocolMember)
      → IsProtocolAt files m.protocol f openness protocol members
      → method_name bytes (header_of bytes) number
      ≡ name_by_path (file_view f) (step.Name protocol ∷ step.Name m.own.name ∷ [])
  pub strict : is_strict (method_at bytes (header_of bytes) number) ≡ m.own.is_strict
  pub request : ShowsPayload files ds bytes m.payloads.request
      (request_of (method_at bytes (header_of bytes) number))
  pub response : ShowsPayload files ds bytes m.payloads.response
      (response_of (method_at bytes (header_of bytes) number))

-- the protocol of this number is one of the library: its full name, its openness, and just its
-- methods in the order of their ordinals
pub record ShowsProtocol (files : List File) (ds : Declarations) (bytes : List ℕ) (p : Protocol)
    (number : ℕ) : Type 0 where
  pub head : (f : File) (openness : Openness) (name : Span) (members : List ProtocolMember)
      → IsProtocolAt files p.id f openness name members
      → (protocol_name bytes (header_of bytes) number
      ≡ name_by_path (file_view f) (step.Name name ∷ []))
      × ((protocol_at bytes (header_of bytes) number).openness ≡ openness_number openness)
  pub count : (protocol_at bytes (header_of bytes) number).methods ≡ length p.methods.items
  pub methods : (k : ℕ) (m : Method) → slice_get p.methods.items k ≡ Some m
      → ShowsMethod files ds bytes m (method_number bytes (header_of bytes) number k)

-- the protocols are just those of the library
pub record ShowsProtocols (files : List File) (ds : Declarations) (bytes : List ℕ) : Type 0 where
  pub protocols : List Protocol
  pub are : AreProtocolsWith files protocols
  pub sound : (number : ℕ) → number < (header_of bytes).protocols
      → (p : Protocol) × Contains protocols p × ShowsProtocol files ds bytes p number
  pub complete : (p : Protocol) → Contains protocols p → (number : ℕ)
      × (number < (header_of bytes).protocols) × ShowsProtocol files ds bytes p number
