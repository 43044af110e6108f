-- Protocols and their numbers as the code has them, and nothing of the language.
use Rattle.std.specs.Prelude.{ℕ, ◌≡◌, ◌<◌, ◌⊎◌, ◌↔◌, ◌∷◌, [], ◌++◌, List, Some, length}
use Rattle.std.specs.Prelude.{slice_get, map}
use Rattle.std.specs.List.{Contains, AllPairs}
use Rattle.fidl_span.specs.declared.words.Span.{Span}
use Rattle.fidl_tree.specs.Syntax.{Path, Attribute, ProtocolMember, compose_member, Openness, Body}
use Rattle.fidl_tree.specs.Syntax.{protocol_body}
use Rattle.fidl_tree.specs.Views.{protocol_member_view}
use Rattle.fidl_tree.specs.declared.file.File.{File}
use Rattle.fidl_tree.specs.declared.declaration.Declaration.{Declaration}
use Rattle.fidl_tree.specs.declared.declaration.ProtocolDeclaration.{ProtocolDeclaration}
use Rattle.fidl_tree.specs.declared.declaration.DeclarationBody.TheVariants.{Protocol}
use Rattle.fidl_named.specs.declared.place.Place.{Place}
use Rattle.fidl_named.specs.declared.place.DeclarationId.{DeclarationId}
use Rattle.fidl_named.specs.Constraints.{IsDeclarationAt}
use Rattle.fidl_named.specs.Paths.{path_place}
use Rattle.fidl_composition.specs.Protocols.{IsProtocolAt, IsProtocol, HasOpenness, IsBefore}
use Rattle.fidl_composition.specs.Protocols.{AreProtocols}
use Rattle.fidl_composition.specs.Compositions.{MeansProtocol, MayCompose, Reaches}
use Rattle.fidl_composition.specs.Numbers.{IsComposedNumber}

-- a declared protocol, by its id
pub record IsProtocolNode (files : List File) (id : DeclarationId) (d : ProtocolDeclaration)
    : Type 0 where
  pub file : File
  pub declaration : Declaration
  pub at : IsDeclarationAt files id file declaration
  pub body : declaration.body ≡ Protocol d

-- a declared protocol composes by this path
abbrev pub IsWritten : ProtocolDeclaration → Path → Type 0
IsWritten d path = (attributes : List Attribute)
    × Contains (map protocol_member_view d.members.items) (compose_member attributes path)

-- what is declared is a protocol
pub record IsProtocolBody (b : Body) : Type 0 where
  pub openness : Openness
  pub members : List ProtocolMember
  pub is : b ≡ protocol_body openness members

abbrev pub at : (file index : ℕ) → DeclarationId
at file index = record { file = file; index = index }

-- the ids of all protocols before a place in the sources, in order
pub record AreProtocolsTo (files : List File) (end : DeclarationId) (ids : List DeclarationId)
    : Type 0 where
  pub entries : (p : DeclarationId) → Contains ids p → IsProtocol files p × IsBefore p end
  pub all : (p : DeclarationId) → IsProtocol files p → IsBefore p end → Contains ids p
  pub rise : AllPairs IsBefore ids

-- an id is added where it is that of a protocol
abbrev pub AddsIfProtocol : Body → DeclarationId → (old new : List DeclarationId) → Type 0
AddsIfProtocol b id old new = (IsProtocolBody b × (new ≡ old ++ id ∷ []))
    ⊎ ((IsProtocolBody b → ⊥) × (new ≡ old))

-- what stands in a list keeps its place
abbrev pub Keeps : (old new : List DeclarationId) → Type 0
Keeps old new = (n : ℕ) (p : DeclarationId) → slice_get old n ≡ Some p → slice_get new n ≡ Some p

-- a row has the number of a declaration of its file
pub record HasNumberIn (row : List ℕ) (ids : List DeclarationId) (p : DeclarationId) : Type 0 where
  pub number : ℕ
  pub number_at : slice_get row p.index ≡ Some number
  pub id_at : slice_get ids number ≡ Some p

-- a row has the numbers of the protocols among a file's first declarations, as many as these
pub record IsRowTo (files : List File) (file index : ℕ) (ids : List DeclarationId) (row : List ℕ)
    : Type 0 where
  pub long : length row ≡ index
  pub numbers : (j : ℕ) → j < index → IsProtocol files (at file j)
      → HasNumberIn row ids (at file j)

-- a row has the numbers of all protocols of a file
abbrev pub IsRow : List File → (file : ℕ) → List DeclarationId → (row : List ℕ) → Type 0
IsRow files file ids row = (j : ℕ) → IsProtocol files (at file j) → HasNumberIn row ids (at file j)

-- rows have the number of a declaration
pub record HasNumber (rows : List (List ℕ)) (ids : List DeclarationId) (p : DeclarationId) : Type 0
  where
    pub row : List ℕ
    pub row_at : slice_get rows p.file ≡ Some row
    pub number : HasNumberIn row ids p

-- the protocols of all files, and rows with their numbers, one for each file
pub record AreNumbered (files : List File) (ids : List DeclarationId) (rows : List (List ℕ))
    : Type 0 where
  pub protocols : AreProtocols files ids
  pub numbers : (p : DeclarationId) → IsProtocol files p → HasNumber rows ids p

-- the same of the first files, as many as these
pub record AreNumberedTo (files : List File) (count : ℕ) (ids : List DeclarationId)
    (rows : List (List ℕ)) : Type 0 where
  pub protocols : AreProtocolsTo files (at count 0) ids
  pub long : length rows ≡ count
  pub numbers : (p : DeclarationId) → IsProtocol files p → p.file < count → HasNumber rows ids p

-- the number of the protocol that a path in the file of this number means
pub record IsTarget (files : List File) (number : ℕ) (ids : List DeclarationId) (path : Path)
    (t : ℕ) : Type 0 where
  pub id : DeclarationId
  pub means : MeansProtocol files number path id
  pub number_at : slice_get ids t ≡ Some id

-- the number of the protocol that a member composes
pub record IsTargetBy (files : List File) (number : ℕ) (ids : List DeclarationId)
    (m : ProtocolMember) (t : ℕ) : Type 0 where
  pub attributes : List Attribute
  pub path : Path
  pub is : m ≡ compose_member attributes path
  pub target : IsTarget files number ids path t

-- a member composes, by a path that stands here, a protocol that reaches another
pub record IsWayBy (files : List File) (number : ℕ) (m : ProtocolMember) (q : DeclarationId)
    (span : Span) : Type 0 where
  pub attributes : List Attribute
  pub path : Path
  pub is : m ≡ compose_member attributes path
  pub through : DeclarationId
  pub means : MeansProtocol files number path through
  pub reaches : Reaches files through q
  pub place : span ≡ path_place path

-- a protocol of this openness may compose what a path in its file means
abbrev pub PathHolds : List File → (number : ℕ) → Openness → Path → Type 0
PathHolds files number openness path = (q : DeclarationId) (other : Openness)
    → MeansProtocol files number path q → HasOpenness files q other → MayCompose openness other

-- it may compose what a member composes
abbrev pub MemberHolds : List File → (number : ℕ) → Openness → ProtocolMember → Type 0
MemberHolds files number openness m = (attributes : List Attribute) (path : Path)
    → m ≡ compose_member attributes path → PathHolds files number openness path

-- a row has just the numbers of what a protocol composes
abbrev pub IsComposedRow : List File → List DeclarationId → DeclarationId → (row : List ℕ) → Type 0
IsComposedRow files ids p row = (t : ℕ) → Contains row t ↔ IsComposedNumber files ids p t

-- so do these, for each of some protocols
pub record AreComposedRows (files : List File) (ids some : List DeclarationId)
    (rows : List (List ℕ)) : Type 0 where
  pub long : length rows ≡ length some
  pub each : (n : ℕ) (p : DeclarationId) (row : List ℕ) → slice_get some n ≡ Some p
      → slice_get rows n ≡ Some row → IsComposedRow files ids p row

-- the place of the name of the protocol of this number
pub record IsNamePlace (files : List File) (ids : List DeclarationId) (number : ℕ) (place : Place)
    : Type 0 where
  pub id : DeclarationId
  pub file : File
  pub openness : Openness
  pub name : Span
  pub members : List ProtocolMember
  pub number_at : slice_get ids number ≡ Some id
  pub is : IsProtocolAt files id file openness name members
  pub place_is : place ≡ record { file = id.file; span = name }
