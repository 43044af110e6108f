-- What protocols are composed of, and what each refusal says (docs/language.md, "Compositions").
use Rattle.std.specs.Prelude.{ℕ, ◌≡◌, ◌⊎◌, List, Some, slice_get}
use Rattle.std.specs.List.{Contains}
use Rattle.fidl_span.specs.declared.words.Span.{Span}
use Rattle.fidl_tree.specs.Syntax.{Path, Attribute, ProtocolMember, compose_member, Openness}
use Rattle.fidl_tree.specs.Syntax.{open_protocol, ajar_protocol, closed_protocol}
use Rattle.fidl_tree.specs.declared.file.File.{File}
use Rattle.fidl_named.specs.declared.place.Place.{Place}
use Rattle.fidl_named.specs.declared.place.DeclarationId.{DeclarationId}
use Rattle.fidl_named.specs.declared.meaning.Wanted.TheVariants as wanted
use Rattle.fidl_named.specs.declared.meaning.Meaning.TheVariants as meaning
use Rattle.fidl_named.specs.Meanings.{Means}
use Rattle.fidl_named.specs.Paths.{texts}
use Rattle.fidl_named.specs.Paths.{path_place}
use Rattle.fidl_cycles.specs.Cycles.{Leads}
use Rattle.fidl_composition.specs.declared.fault.ComposeFault.{ComposeFault}
use Rattle.fidl_composition.specs.declared.fault.ComposeFault.TheVariants.{BadCompose}
use Rattle.fidl_composition.specs.declared.fault.ComposeFault.TheVariants.{ComposeCycle, Memory}
use Rattle.fidl_composition.specs.Protocols.{IsProtocolAt, HasOpenness, IsBefore}

-- What protocols are composed of.

-- a path in the file of this number means this protocol
pub record MeansProtocol (files : List File) (number : ℕ) (path : Path) (q : DeclarationId) : Type 0
  where
    pub file : File
    pub at : slice_get files number ≡ Some file
    pub means : Means files file wanted.Protocol (texts file.src.now path) (meaning.Declared q)

-- a protocol composes another by a path that stands here
pub record ComposesAt (files : List File) (p : DeclarationId) (span : Span) (q : DeclarationId)
    : Type 0 where
  pub file : File
  pub openness : Openness
  pub name : Span
  pub members : List ProtocolMember
  pub attributes : List Attribute
  pub path : Path
  pub is : IsProtocolAt files p file openness name members
  pub among : Contains members (compose_member attributes path)
  pub means : MeansProtocol files p.file path q
  pub place : span ≡ path_place path

-- a protocol composes another
abbrev pub Composes : List File → (p q : DeclarationId) → Type 0
Composes files p q = (span : Span) × ComposesAt files p span q

-- a protocol reaches itself and all that it composes, directly or through others
abbrev pub Reaches : List File → (p q : DeclarationId) → Type 0
Reaches files p q = (p ≡ q) ⊎ Leads (Composes files) p q

-- the place of a path by which one protocol composes a protocol that reaches another
pub record IsWay (files : List File) (p q : DeclarationId) (place : Place) : Type 0 where
  pub through : DeclarationId
  pub composes : ComposesAt files p place.span through
  pub reaches : Reaches files through q
  pub file_is : place.file ≡ p.file

-- What files owe.

-- a protocol of the first openness may compose one of the second
abbrev pub MayCompose : (composing composed : Openness) → Type 0
MayCompose open_protocol composed = Unit {0}
MayCompose ajar_protocol open_protocol = ⊥
MayCompose ajar_protocol ajar_protocol = Unit {0}
MayCompose ajar_protocol closed_protocol = Unit {0}
MayCompose closed_protocol open_protocol = ⊥
MayCompose closed_protocol ajar_protocol = ⊥
MayCompose closed_protocol closed_protocol = Unit {0}

-- all that a protocol composes it may compose
abbrev pub ProtocolHolds : List File → DeclarationId → Type 0
ProtocolHolds files p = (q : DeclarationId) (one other : Openness) → Composes files p q
    → HasOpenness files p one → HasOpenness files q other → MayCompose one other

-- each protocol composes what it may, and none leads to itself
pub record ComposesHold (files : List File) : Type 0 where
  pub openness : (p : DeclarationId) → ProtocolHolds files p
  pub no_cycle : (p : DeclarationId) → Leads (Composes files) p p → ⊥

-- What refusals say.

-- some protocol composes one that it may not compose: the place of the path
pub record BreaksAt (files : List File) (place : Place) : Type 0 where
  pub composing : DeclarationId
  pub composed : DeclarationId
  pub one : Openness
  pub other : Openness
  pub composes : ComposesAt files composing place.span composed
  pub one_is : HasOpenness files composing one
  pub other_is : HasOpenness files composed other
  pub wrong : MayCompose one other → ⊥
  pub file_is : place.file ≡ composing.file

-- one protocol composes another, and neither stands before this declaration
abbrev pub ComposesFrom : List File → (first : DeclarationId) → (p q : DeclarationId) → Type 0
ComposesFrom files first p q = Composes files p q × (IsBefore p first → ⊥)
    × (IsBefore q first → ⊥)

-- some protocol leads to itself through protocols none of which stands before it: the place of its
-- name
pub record IsFirstOfCycle (files : List File) (place : Place) : Type 0 where
  pub id : DeclarationId
  pub file : File
  pub openness : Openness
  pub name : Span
  pub members : List ProtocolMember
  pub is : IsProtocolAt files id file openness name members
  pub back : Leads (ComposesFrom files id) id id
  pub place_is : place ≡ record { file = id.file; span = name }

-- what a refusal says of the files: nothing where memory ran out
abbrev pub IsTrueOfCompositions : List File → ComposeFault → Type 0
IsTrueOfCompositions files (BadCompose place) = BreaksAt files place
IsTrueOfCompositions files (ComposeCycle place) = IsFirstOfCycle files place
IsTrueOfCompositions files Memory = Unit {0}
