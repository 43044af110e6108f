-- When the types written as payloads may be payloads, and what a refusal says (docs/language.md,
-- "Payloads").
use Rattle.std.specs.Prelude.{ℕ, ◌≡◌, List, [], ◌∷◌, ◌++◌, Option, Some, None, slice_get}
use Rattle.std.specs.List.{Contains, AllByRecursion}
use Rattle.fidl_span.specs.declared.words.Span.{Span}
use Rattle.fidl_tree.specs.Syntax.{Attribute, TypeUse, Response, Openness, Declaration}
use Rattle.fidl_tree.specs.Syntax.{protocol_body}
use Rattle.fidl_tree.specs.Syntax.{ProtocolMember, compose_member, method_member, event_member}
use Rattle.fidl_tree.specs.Views.{protocol_body_view, file_view}
use Rattle.fidl_tree.specs.declared.file.File.{File}
use Rattle.fidl_tree.specs.declared.protocol.ProtocolMemberBody.{ProtocolMemberBody}
use Rattle.fidl_consts.specs.Refusals.{type_span}
use Rattle.fidl_payloads.specs.declared.fault.PayloadFault.{PayloadFault}
use Rattle.fidl_payloads.specs.declared.fault.PayloadFault.TheVariants.{BadPayload, Memory}
use Rattle.fidl_payloads.specs.Kinds.{IsPayload}

-- Members of protocols.

-- a protocol of this name, declared in the file of this number, has this member
pub record IsMemberOf (files : List File) (number : ℕ) (protocol : Span) (m : ProtocolMember)
    : Type 0 where
  pub file : File
  pub at : slice_get files number ≡ Some file
  pub declaration : Declaration
  pub declared : Contains (file_view file).declarations declaration
  pub name_is : declaration.name ≡ protocol
  pub openness : Openness
  pub members : List ProtocolMember
  pub body_is : declaration.body ≡ protocol_body openness members
  pub among : Contains members m

-- it has a member of the code, whatever attributes that has
abbrev pub HasBody : List File → (number : ℕ) → (protocol : Span) → ProtocolMemberBody → Type 0
HasBody files number protocol b =
    (attributes : List Attribute)
    × IsMemberOf files number protocol (protocol_body_view attributes b)

-- What members owe.

-- the type in parentheses, where one is written
abbrev pub part_types : (written : Option TypeUse) → List TypeUse
part_types None = []
part_types (Some t) = t ∷ []

-- the type written as the response of a two-way method, with a result or without
abbrev pub answer_types : Option Response → List TypeUse
answer_types None = []
answer_types (Some r) = part_types r.payload

-- the types written as payloads
abbrev pub payload_types : ProtocolMember → List TypeUse
payload_types (compose_member attributes name) = []
payload_types (method_member attributes strict name request response) =
    part_types request ++ answer_types response
payload_types (event_member attributes strict name written) = part_types written

-- each of these types in the file of this number may be a payload
abbrev pub TypesHold : List File → (number : ℕ) → List TypeUse → Type 0
TypesHold files number ts = AllByRecursion (λ t. (i : ℕ) × IsPayload files number t i) ts

-- each type written as a payload of a member may be one
abbrev pub MemberHolds : List File → (number : ℕ) → ProtocolMember → Type 0
MemberHolds files number m = TypesHold files number (payload_types m)

-- What a refusal says.

-- one of these types may not be a payload: the place of that
pub record TypesBreak (files : List File) (number : ℕ) (ts : List TypeUse) (span : Span) : Type 0
  where
    pub one : TypeUse
    pub among : Contains ts one
    pub wrong : (i : ℕ) → IsPayload files number one i → ⊥
    pub place : span ≡ type_span one

-- one of those written as payloads of a member
abbrev pub MemberBreaks : List File → (number : ℕ) → ProtocolMember → Span → Type 0
MemberBreaks files number m span = TypesBreak files number (payload_types m) span

-- what a refusal says of a part of the file of this number, by what it is to be wrong at a place;
-- nothing where memory ran out
abbrev pub IsReportIn : (number : ℕ) → (Breaks : Span → Type 0) → PayloadFault → Type 0
IsReportIn number Breaks (BadPayload place) = (place.file ≡ number) × Breaks place.span
IsReportIn number Breaks Memory = Unit {0}
