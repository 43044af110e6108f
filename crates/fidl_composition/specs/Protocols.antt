-- Protocols, and their order in the sources (docs/language.md, "Compositions").
use Rattle.std.specs.Prelude.{◌≡◌, ◌<◌, ◌⊎◌, List}
use Rattle.std.specs.List.{Contains, AllPairs}
use Rattle.fidl_span.specs.declared.words.Span.{Span}
use Rattle.fidl_tree.specs.Syntax.{Openness, ProtocolMember, protocol_body}
use Rattle.fidl_tree.specs.Views.{declared_name, declared_view}
use Rattle.fidl_tree.specs.declared.file.File.{File}
use Rattle.fidl_tree.specs.declared.declaration.Declaration.{Declaration}
use Rattle.fidl_named.specs.declared.place.DeclarationId.{DeclarationId}
use Rattle.fidl_named.specs.Constraints.{IsDeclarationAt}

-- the declaration of this id, in this file, is a protocol: its openness, where its name stands, and
-- its members
pub record IsProtocolAt (files : List File) (id : DeclarationId) (f : File) (openness : Openness)
    (name : Span) (members : List ProtocolMember) : Type 0 where
  pub declaration : Declaration
  pub at : IsDeclarationAt files id f declaration
  pub name_is : declared_name declaration.body ≡ name
  pub body : declared_view declaration.body ≡ protocol_body openness members

-- it is a protocol of this openness
pub record HasOpenness (files : List File) (id : DeclarationId) (openness : Openness) : Type 0 where
  pub file : File
  pub name : Span
  pub members : List ProtocolMember
  pub is : IsProtocolAt files id file openness name members

-- it is a protocol
abbrev pub IsProtocol : List File → DeclarationId → Type 0
IsProtocol files id = (openness : Openness) × HasOpenness files id openness

-- one declaration stands before another: in an earlier file, or earlier in the same file
abbrev pub IsBefore : DeclarationId → DeclarationId → Type 0
IsBefore p q = (p.file < q.file) ⊎ ((p.file ≡ q.file) × (p.index < q.index))

-- the ids of all protocols, each once, in the order of the sources
pub record AreProtocols (files : List File) (ids : List DeclarationId) : Type 0 where
  pub entries : (p : DeclarationId) → Contains ids p → IsProtocol files p
  pub all : (p : DeclarationId) → IsProtocol files p → Contains ids p
  pub rise : AllPairs IsBefore ids
