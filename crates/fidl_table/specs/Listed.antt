-- What is listed of a library before its table is assembled: its methods and protocols, with their
-- names.
use Rattle.std.specs.Prelude.{ℕ, ◌≡◌, [], ◌∷◌, List, map}
use Rattle.std.specs.List.{AllZip, Contains}
use Rattle.fidl_span.specs.declared.words.Span.{Span}
use Rattle.fidl_tree.specs.Syntax.{Openness, ProtocolMember}
use Rattle.fidl_tree.specs.Views.{file_view, openness_view}
use Rattle.fidl_tree.specs.declared.file.File.{File}
use Rattle.fidl_named.specs.declared.place.DeclarationId.{DeclarationId}
use Rattle.fidl_declarations.specs.declared.step.Step.TheVariants as step
use Rattle.fidl_declarations.specs.Forms.{Form, name_by_path}
use Rattle.fidl_composition.specs.Protocols.{IsProtocolAt}
use Rattle.fidl_payloads.specs.declared.payload.Payload.{Payload}
use Rattle.fidl_payloads.specs.declared.payload.Payload.TheVariants.{Missing, Empty}
use Rattle.fidl_payloads.specs.declared.payload.Payload.TheVariants as payload
use Rattle.fidl_protocol.specs.declared.method.Method.{Method}
use Rattle.fidl_protocol.specs.declared.method.Protocol.{Protocol}
use Rattle.fidl_table_build.specs.declared.listing.Carried.{Carried}
use Rattle.fidl_table_build.specs.declared.listing.Carried.TheVariants as carried
use Rattle.fidl_table_build.specs.declared.listing.MethodEntry.{MethodEntry}
use Rattle.fidl_table_build.specs.declared.listing.ProtocolEntry.{ProtocolEntry}
use Rattle.fidl_verify.specs.Lookups as table
use Rattle.fidl_table.specs.declared.found.Found.{Found}
use Rattle.fidl_table.specs.Protocols.{openness_number}

-- the full names of forms
abbrev pub names_of : List Form → List (List ℕ)
names_of forms = map (λ (form : Form). form.name) forms

-- what a message carries, as it is listed
abbrev pub carried_by : Payload → Carried
carried_by Missing = carried.Missing
carried_by Empty = carried.Empty
carried_by (payload.«Type» i) = carried.Definition i

-- the protocol of an id is what was found: this is its file, its openness and its name
pub record IsFoundAs (x : Found) (f : File) (openness : Openness) (name : Span) : Type 0 where
  pub file_is : x.file.now ≡ f
  pub openness_is : openness_view x.protocol.now.openness ≡ openness
  pub name_is : x.protocol.now.name ≡ name

abbrev pub IsFound : List File → DeclarationId → Found → Type 0
IsFound files id x = (f : File) (openness : Openness) (name : Span)
    (members : List ProtocolMember) → IsProtocolAt files id f openness name members
    → IsFoundAs x f openness name

-- a method is listed by this: its full name by the protocol that declares it, its ordinal, whether
-- it is strict, and what its messages carry
pub record IsMethodEntry (files : List File) (m : Method) (e : MethodEntry) : Type 0 where
  pub ordinal : e.ordinal ≡ m.own.ordinal
  pub name : (f : File) (openness : Openness) (protocol : Span) (members : List ProtocolMember)
      → IsProtocolAt files m.protocol f openness protocol members
      → e.name.items
      ≡ name_by_path (file_view f) (step.Name protocol ∷ step.Name m.own.name ∷ [])
  pub strict : e.strict ≡ m.own.is_strict
  pub request : e.request ≡ carried_by m.payloads.request
  pub response : e.response ≡ carried_by m.payloads.response

-- a protocol is listed by this: its full name, its openness and its methods in their order
pub record IsProtocolEntry (files : List File) (p : Protocol) (e : ProtocolEntry) : Type 0 where
  pub head : (f : File) (openness : Openness) (name : Span) (members : List ProtocolMember)
      → IsProtocolAt files p.id f openness name members
      → (e.name.items ≡ name_by_path (file_view f) (step.Name name ∷ []))
      × (table.openness_number e.openness ≡ openness_number openness)
  pub methods : AllZip (IsMethodEntry files) p.methods.items e.methods.items

-- a list has these protocols, and no other
pub record AreListed (files : List File) (ps : List Protocol) (es : List ProtocolEntry) : Type 0
  where
    pub sound : (e : ProtocolEntry) → Contains es e
        → (p : Protocol) × Contains ps p × IsProtocolEntry files p e
    pub complete : (p : Protocol) → Contains ps p
        → (e : ProtocolEntry) × Contains es e × IsProtocolEntry files p e
