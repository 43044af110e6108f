-- When the protocols of files keep all rules (docs/language.md, "Checked protocols"). With the
-- rules of types and of laying out these are all rules of the language.
use Rattle.std.specs.Prelude.{◌<◌, List, map}
use Rattle.std.specs.List.{Contains, AllByRecursion, AllPairs}
use Rattle.fidl_span.specs.declared.words.Span.{Span}
use Rattle.fidl_tree.specs.Syntax.{Openness, ProtocolMember}
use Rattle.fidl_tree.specs.Views.{file_view}
use Rattle.fidl_tree.specs.declared.file.File.{File}
use Rattle.fidl_named.specs.declared.place.DeclarationId.{DeclarationId}
use Rattle.fidl_wire.specs.Term.{Term}
use Rattle.fidl_wire.specs.Figure.{Declarations}
use Rattle.fidl_types.specs.Types.{TypesAre}
use Rattle.fidl_layout.specs.Laid.{AreLaidOut}
use Rattle.fidl_composition.specs.Protocols.{IsProtocolAt, AreProtocols}
use Rattle.fidl_composition.specs.Compositions.{ComposesHold}
use Rattle.fidl_method_rules.specs.Rules.{ProtocolHolds}
use Rattle.fidl_payloads.specs.Members.{MemberHolds}
use Rattle.fidl_protocol.specs.declared.method.Method.{Method}
use Rattle.fidl_protocol.specs.declared.method.Protocol.{Protocol}
use Rattle.fidl_protocol.specs.Methods.{HasMethod, MethodsDiffer}
use Rattle.fidl_protocol.specs.Starts.{StartsFit}

-- the members of a protocol may stand in it, their selectors are proper, their ordinals aren't 0,
-- and what they carry may be a payload
pub record MembersHold (files : List File) (id : DeclarationId) : Type 0 where
  pub methods : (f : File) (openness : Openness) (name : Span) (members : List ProtocolMember)
      → IsProtocolAt files id f openness name members
      → ProtocolHolds (file_view f) openness name members
  pub payloads : (f : File) (openness : Openness) (name : Span) (members : List ProtocolMember)
      → IsProtocolAt files id f openness name members
      → AllByRecursion (MemberHolds files id.file) members

-- the protocols of files keep all rules of their own
pub record ProtocolsHold (files : List File) : Type 0 where
  pub members : (id : DeclarationId) → MembersHold files id
  pub compositions : ComposesHold files
  pub methods : (id : DeclarationId) → MethodsDiffer files id
  pub types : (terms : List Term) → TypesAre files terms → StartsFit files terms

-- files keep all rules of the language, and their definitions have these figures
pub record AreChecked (files : List File) (ds : Declarations) : Type 0 where
  pub laid_out : AreLaidOut files ds
  pub protocols : ProtocolsHold files

-- a list has just the methods of a protocol, each once, in the order of their ordinals
pub record AreMethodsOf (files : List File) (p : DeclarationId) (ms : List Method) : Type 0 where
  pub sound : (m : Method) → Contains ms m → HasMethod files p m
  pub complete : (m : Method) → HasMethod files p m → Contains ms m
  pub rise : AllPairs (λ (one other : Method). one.own.ordinal < other.own.ordinal) ms

-- a list has all protocols in the order of the sources, each with its methods
pub record AreProtocolsWith (files : List File) (ps : List Protocol) : Type 0 where
  pub protocols : AreProtocols files (map (λ (p : Protocol). p.id) ps)
  pub methods : AllByRecursion (λ (p : Protocol). AreMethodsOf files p.id p.methods.items) ps

-- what is held of files whose protocols keep all rules
pub record AreHeld (files : List File) (ps : List Protocol) : Type 0 where
  pub rules : ProtocolsHold files
  pub protocols : AreProtocolsWith files ps
