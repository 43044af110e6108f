-- What each refusal of protocols says (docs/language.md, "Checked protocols").
use Rattle.std.specs.Prelude.{ℕ, ◌≡◌, ◌≢◌, ◌<◌, ◌⊎◌, List}
use Rattle.std.specs.List.{Contains}
use Rattle.fidl_limits.specs.declared.limits.TheConstants.{MAX_ENTRIES}
use Rattle.fidl_span.specs.declared.words.Span.{Span}
use Rattle.fidl_tree.specs.Syntax.{Openness, ProtocolMember}
use Rattle.fidl_tree.specs.Views.{file_view}
use Rattle.fidl_tree.specs.declared.file.File.{File}
use Rattle.fidl_named.specs.declared.place.Place.{Place}
use Rattle.fidl_named.specs.declared.place.DeclarationId.{DeclarationId}
use Rattle.fidl_wire.specs.Term.{Term}
use Rattle.fidl_lower_layouts.specs.Definitions.{DefinitionsAre}
use Rattle.fidl_reachable_types.specs.Faults.{AreTooMany}
use Rattle.fidl_composition.specs.declared.fault.ComposeFault.TheVariants as compose
use Rattle.fidl_composition.specs.Protocols.{IsProtocolAt}
use Rattle.fidl_composition.specs.Compositions.{IsTrueOfCompositions, IsWay}
use Rattle.fidl_method_rules.specs.Rules.{Rule, strict_rule, selector_rule, ordinal_rule}
use Rattle.fidl_method_rules.specs.Rules.{ProtocolBreaks}
use Rattle.fidl_payloads.specs.Members.{MemberBreaks}
use Rattle.fidl_protocol.specs.declared.fault.ProtocolFault.{ProtocolFault}
use Rattle.fidl_protocol.specs.declared.fault.ProtocolFault.TheVariants.{NotStrict, BadCompose}
use Rattle.fidl_protocol.specs.declared.fault.ProtocolFault.TheVariants.{DuplicateMethod}
use Rattle.fidl_protocol.specs.declared.fault.ProtocolFault.TheVariants.{DuplicateMethodOrdinal}
use Rattle.fidl_protocol.specs.declared.fault.ProtocolFault.TheVariants.{ZeroOrdinal, BadPayload}
use Rattle.fidl_protocol.specs.declared.fault.ProtocolFault.TheVariants.{ComposeCycle, BadSelector}
use Rattle.fidl_protocol.specs.declared.fault.ProtocolFault.TheVariants.{TooManyTypes, Memory}
use Rattle.fidl_protocol.specs.declared.method.Method.{Method}
use Rattle.fidl_protocol.specs.Methods.{IsDeclared, HasMethod, method_place, HaveOneName}
use Rattle.fidl_protocol.specs.Starts.{AreStarts}

-- a method of a protocol breaks a rule of methods, at this place
pub record MethodBreaksAt (files : List File) (rule : Rule) (place : Place) : Type 0 where
  pub id : DeclarationId
  pub file : File
  pub openness : Openness
  pub name : Span
  pub members : List ProtocolMember
  pub at : IsProtocolAt files id file openness name members
  pub breaks : ProtocolBreaks (file_view file) openness name members rule place.span
  pub file_is : place.file ≡ id.file

-- what a member of a protocol carries may not be a payload
pub record PayloadBreaksAt (files : List File) (place : Place) : Type 0 where
  pub id : DeclarationId
  pub file : File
  pub openness : Openness
  pub name : Span
  pub members : List ProtocolMember
  pub member : ProtocolMember
  pub at : IsProtocolAt files id file openness name members
  pub among : Contains members member
  pub breaks : MemberBreaks files id.file member place.span
  pub file_is : place.file ≡ id.file

-- one of two methods of a protocol is reported at its name: one that the protocol itself declares,
-- and behind the other where it declares both
pub record IsAtName (protocol : DeclarationId) (reported other : Method) (place : Place) : Type 0
  where
    pub own : reported.protocol ≡ protocol
    pub later : other.protocol ≡ protocol → other.own.member < reported.own.member
    pub place_is : place ≡ method_place reported

-- the protocol declares neither, and one is reported at the path of a composition of the protocol
-- through which it comes
pub record IsAtPath (files : List File) (protocol : DeclarationId) (reported other : Method)
    (place : Place) : Type 0 where
  pub reported_composed : reported.protocol ≢ protocol
  pub other_composed : other.protocol ≢ protocol
  pub way : IsWay files protocol reported.protocol place

-- where one of two methods of a protocol is reported
abbrev pub IsReported : List File → (protocol : DeclarationId) → (reported other : Method) → Place
    → Type 0
IsReported files protocol reported other place =
    IsAtName protocol reported other place ⊎ IsAtPath files protocol reported other place

-- two methods of a protocol are alike, and one of them is reported in that protocol
pub record TwoAreAlike (files : List File) (Alike : Method → Method → Type 0) (place : Place)
    : Type 0 where
  pub protocol : DeclarationId
  pub one : Method
  pub other : Method
  pub has_one : HasMethod files protocol one
  pub has_other : HasMethod files protocol other
  pub differ : one ≢ other
  pub alike : Alike one other
  pub reported : IsReported files protocol other one place

abbrev pub HaveOneOrdinal : (one other : Method) → Type 0
HaveOneOrdinal one other = one.own.ordinal ≡ other.own.ordinal

-- declared types and payloads reach too many types; the place is that of the name of a method
pub record TypesAreTooMany (files : List File) (place : Place) : Type 0 where
  pub terms : List Term
  pub definitions : DefinitionsAre files terms
  pub starts : List ℕ
  pub are : AreStarts files starts
  pub many : AreTooMany terms starts MAX_ENTRIES
  pub method : Method
  pub declared : IsDeclared files method
  pub place_is : place ≡ method_place method

-- a refusal is true of files; that memory ran out says nothing of them
abbrev pub IsTrueOfProtocols : List File → ProtocolFault → Type 0
IsTrueOfProtocols files (NotStrict place) = MethodBreaksAt files strict_rule place
IsTrueOfProtocols files (BadCompose place) = IsTrueOfCompositions files (compose.BadCompose place)
IsTrueOfProtocols files (DuplicateMethod place) = TwoAreAlike files (HaveOneName files) place
IsTrueOfProtocols files (DuplicateMethodOrdinal place) = TwoAreAlike files HaveOneOrdinal place
IsTrueOfProtocols files (ZeroOrdinal place) = MethodBreaksAt files ordinal_rule place
IsTrueOfProtocols files (BadPayload place) = PayloadBreaksAt files place
IsTrueOfProtocols files (ComposeCycle place) =
    IsTrueOfCompositions files (compose.ComposeCycle place)
IsTrueOfProtocols files (BadSelector place) = MethodBreaksAt files selector_rule place
IsTrueOfProtocols files (TooManyTypes place) = TypesAreTooMany files place
IsTrueOfProtocols files Memory = Unit {0}
