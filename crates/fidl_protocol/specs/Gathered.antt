-- Methods on the way to all of a protocol, as the code has them.
use Rattle.std.specs.Prelude.{ℕ, ◌≡◌, ◌≢◌, ◌<◌, ◌++◌, ◌∷◌, List, [], Some, map, slice_get, flat_map}
use Rattle.std.specs.Option.{option_map_or}
use Rattle.std.specs.List.{Contains, AllPairs, AllZip}
use Rattle.std.specs.Global.{Vec}
use Rattle.fidl_tree.specs.Leaf.{text_at}
use Rattle.fidl_tree.specs.Syntax.{ProtocolMember}
use Rattle.fidl_tree.specs.Views.{openness_view, protocol_member_view}
use Rattle.fidl_tree.specs.declared.file.File.{File}
use Rattle.fidl_named.specs.declared.place.DeclarationId.{DeclarationId}
use Rattle.fidl_composition.specs.Protocols.{IsProtocolAt}
use Rattle.fidl_method_rules.specs.declared.methods.OwnMethod.{OwnMethod}
use Rattle.fidl_payloads.specs.declared.payload.Payload.{Payload}
use Rattle.fidl_payloads.specs.declared.payload.Payload.TheVariants.{Missing, Empty}
use Rattle.fidl_payloads.specs.declared.payload.Payload.TheVariants as payload
use Rattle.fidl_payloads.specs.Members.{MemberHolds}
use Rattle.fidl_protocol.specs.declared.alike.Pair.{Pair}
use Rattle.fidl_protocol.specs.declared.declaring.Found.{Found}
use Rattle.fidl_protocol.specs.declared.method.Method.{Method}
use Rattle.fidl_protocol.specs.declared.method.Protocol.{Protocol}
use Rattle.fidl_protocol.specs.Methods.{IsDeclared, HasMethod}

-- what was found is the protocol of its id
abbrev pub IsFound : List File → Found → Type 0
IsFound files x = IsProtocolAt files x.id x.file.now (openness_view x.protocol.now.openness)
    x.protocol.now.name (map protocol_member_view x.protocol.now.members.items)

-- a method of that protocol, of its own data; what its member carries may be a payload
pub record IsMade (files : List File) (x : Found) (own : OwnMethod) (m : Method) : Type 0 where
  pub protocol_is : m.protocol ≡ x.id
  pub own_is : m.own ≡ own
  pub declared : IsDeclared files m
  pub holds : (member : ProtocolMember)
      → slice_get (map protocol_member_view x.protocol.now.members.items) own.member ≡ Some member
      → MemberHolds files x.id.file member

-- a list has just the methods that the protocol of this id declares, each once
pub record AreDeclaredBy (files : List File) (id : DeclarationId) (ms : List Method) : Type 0 where
  pub sound : (m : Method) → Contains ms m → IsDeclared files m
  pub own : (m : Method) → Contains ms m → m.protocol ≡ id
  pub complete : (m : Method) → IsDeclared files m → m.protocol ≡ id → Contains ms m
  pub once : AllPairs (λ (one other : Method). one ≢ other) ms

-- rows have these for each protocol of a list, by its number
abbrev pub AreRows : List File → List DeclarationId → List (Vec Method) → Type 0
AreRows files ids rows =
    AllZip (λ id (row : Vec Method). AreDeclaredBy files id row.items) ids rows

-- the methods of a row; none past the last
abbrev pub row_at : List (Vec Method) → ℕ → List Method
row_at rows n = option_map_or (λ (v : Vec Method). v.items) (slice_get rows n) []

-- those of the rows of these numbers
abbrev pub rows_at : List (Vec Method) → (numbers : List ℕ) → List Method
rows_at rows numbers = flat_map (row_at rows) numbers

-- a list has just the methods of a protocol, each once
pub record AreGathered (files : List File) (p : DeclarationId) (ms : List Method) : Type 0 where
  pub sound : (m : Method) → Contains ms m → HasMethod files p m
  pub complete : (m : Method) → HasMethod files p m → Contains ms m
  pub once : AllPairs (λ (one other : Method). one ≢ other) ms

-- two different methods of a protocol
pub record ArePair (files : List File) (p : DeclarationId) (pair : Pair) : Type 0 where
  pub has_one : HasMethod files p pair.one
  pub has_other : HasMethod files p pair.other
  pub differ : pair.one ≢ pair.other

-- the protocol itself declares a method, behind another if it declares that too
pub record IsLaterOwn (p : DeclarationId) (m other : Method) : Type 0 where
  pub own : m.protocol ≡ p
  pub later : other.protocol ≡ p → other.own.member < m.own.member

-- the name of a method, without that of its protocol; empty where its file isn't there
abbrev pub name_text : List File → Method → List ℕ
name_text files m =
    option_map_or (λ (f : File). text_at f.src.now m.own.name) (slice_get files m.protocol.file) []

-- no two have one name
abbrev pub NamesDiffer : List File → List Method → Type 0
NamesDiffer files ms = AllPairs (λ one other. name_text files one ≢ name_text files other) ms

-- the number of the definition that a payload is of
abbrev pub payload_numbers : Payload → List ℕ
payload_numbers Missing = []
payload_numbers Empty = []
payload_numbers (payload.«Type» i) = i ∷ []

-- those of a method, and of all methods of a protocol
abbrev pub method_payloads : Method → List ℕ
method_payloads m = payload_numbers m.payloads.request ++ payload_numbers m.payloads.response

abbrev pub protocol_payloads : Protocol → List ℕ
protocol_payloads p = flat_map method_payloads p.methods.items
