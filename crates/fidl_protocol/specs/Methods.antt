-- The methods of protocols (docs/language.md, "Methods of protocols").
use Rattle.std.specs.Prelude.{ℕ, ◌≡◌, List, Some, slice_get}
use Rattle.fidl_span.specs.declared.words.Span.{Span}
use Rattle.fidl_tree.specs.Leaf.{text_at}
use Rattle.fidl_tree.specs.Syntax.{Openness, ProtocolMember}
use Rattle.fidl_tree.specs.Views.{file_view}
use Rattle.fidl_tree.specs.declared.file.File.{File}
use Rattle.fidl_named.specs.declared.place.Place.{Place}
use Rattle.fidl_named.specs.declared.place.DeclarationId.{DeclarationId}
use Rattle.fidl_composition.specs.Protocols.{IsProtocolAt}
use Rattle.fidl_composition.specs.Compositions.{Reaches}
use Rattle.fidl_method_rules.specs.MethodViews.{IsEntryOf}
use Rattle.fidl_payloads.specs.Payloads.{RequestIs, ResponseIs}
use Rattle.fidl_protocol.specs.declared.method.Method.{Method}

-- a protocol declares a method: its member of the method's number has the method's name, strictness
-- and ordinal, and carries its payloads
pub record IsDeclared (files : List File) (m : Method) : Type 0 where
  pub file : File
  pub openness : Openness
  pub protocol : Span
  pub members : List ProtocolMember
  pub member : ProtocolMember
  pub at : IsProtocolAt files m.protocol file openness protocol members
  pub stands : slice_get members m.own.member ≡ Some member
  pub own : IsEntryOf (file_view file) protocol member m.own
  pub request : RequestIs files m.protocol.file member m.payloads.request
  pub response : ResponseIs files m.protocol.file protocol member m.payloads.response

-- the methods of a protocol: those that a protocol declares which it reaches by compositions,
-- itself included
pub record HasMethod (files : List File) (p : DeclarationId) (m : Method) : Type 0 where
  pub reaches : Reaches files p m.protocol
  pub declared : IsDeclared files m

-- the place of a method's name
abbrev pub method_place : Method → Place
method_place m = record { file = m.protocol.file; span = m.own.name }

-- the name of a method, without that of its protocol
pub record IsNamed (files : List File) (m : Method) (name : List ℕ) : Type 0 where
  pub file : File
  pub at : slice_get files m.protocol.file ≡ Some file
  pub is : name ≡ text_at file.src.now m.own.name

-- two methods have one name
pub record HaveOneName (files : List File) (one other : Method) : Type 0 where
  pub name : List ℕ
  pub one_is : IsNamed files one name
  pub other_is : IsNamed files other name

-- the methods of a protocol differ in their names and in their ordinals
pub record MethodsDiffer (files : List File) (p : DeclarationId) : Type 0 where
  pub names : (one other : Method) → HasMethod files p one → HasMethod files p other
      → HaveOneName files one other → one ≡ other
  pub ordinals : (one other : Method) → HasMethod files p one → HasMethod files p other
      → one.own.ordinal ≡ other.own.ordinal → one ≡ other
