-- The places of a source that owe values: members, bounds, numbers of elements and constraints
-- (docs/language.md, "Places of values").
use Rattle.std.specs.Prelude.{ℕ, ◌≡◌, pos, List, Option, Some}
use Rattle.std.specs.List.{AllByRecursion, Contains}
use Rattle.fidl_span.specs.declared.words.Span.{Span}
use Rattle.fidl_tree.specs.Leaf.{text_at}
use Rattle.fidl_tree.specs.declared.file.File.{File}
use Rattle.fidl_tree.specs.Syntax.{Path, Value, ValueMember, ValuesKind, Body}
use Rattle.fidl_tree.specs.Views.{declared_view}
use Rattle.fidl_tree.specs.declared.declaration.Declaration.{Declaration}
use Rattle.fidl_named.specs.declared.meaning.Wanted.TheVariants as wanted
use Rattle.fidl_named.specs.declared.meaning.Meaning.{Meaning}
use Rattle.fidl_named.specs.Meanings.{Means}
use Rattle.fidl_named.specs.Paths.{texts}
use Rattle.fidl_named.specs.Aliases.{ResolvesTo, Wants, IsArrayName}
use Rattle.fidl_named.specs.Places.{NamePlace, a_name, a_type, a_layout, a_number, a_members}
use Rattle.fidl_named.specs.Places.{body_places}
use Rattle.fidl_consts.specs.declared.fault.ConstFault.{ConstFault}
use Rattle.fidl_consts.specs.declared.fault.ConstFault.TheVariants.{OutOfRange}
use Rattle.fidl_consts.specs.declared.const_type.NumberKind.{NumberKind}
use Rattle.fidl_consts.specs.declared.const_type.NumberKind.TheVariants.{Uint32}
use Rattle.fidl_consts.specs.declared.const_type.ConstType.TheVariants as ty
use Rattle.fidl_consts.specs.Literals.{number_of}
use Rattle.fidl_consts.specs.PlainValues.{PlainValue, InRange}
use Rattle.fidl_consts.specs.Types.{UnderlyingIs}
use Rattle.fidl_consts.specs.Values.{NameGives, ValueIs}
use Rattle.fidl_consts.specs.Refusals.{at, NameFails, ValueFails}
use Rattle.fidl_consts.specs.Constraints.{UnderlyingFails, ConstraintsHold, ConstraintsFail}

-- a member has a value at its layout's underlying type
pub record MemberHolds (files : List File) (f : File) (kind : NumberKind) (m : ValueMember) : Type 0
  where
    pub known : PlainValue
    pub is : ValueIs files f (ty.Number kind) m.value known

-- one of the members is refused
pub record MembersFail (files : List File) (f : File) (number : ℕ) (kind : NumberKind)
    (members : List ValueMember) (fault : ConstFault) : Type 0 where
  pub member : ValueMember
  pub among : Contains members member
  pub fails : ValueFails files f number (ty.Number kind) fault member.value

-- a place has the values that it owes: the number of elements of an array, members, bounds and what
-- properties want
pub data PlaceHolds (files : List File) (f : File) : NamePlace → Type 0 where
  of_name : (kind : _) (path : Path) → PlaceHolds files f (a_name kind path)
  of_layout : (cs : List Value) → PlaceHolds files f (a_layout cs)
  of_number : (argument_of : Option Path) (word : Span)
      → Wants (IsArrayName files f) argument_of wanted.«Type»
      → PlaceHolds files f (a_number argument_of word)
  of_count : (argument_of : Option Path) (word : Span)
      → Wants (IsArrayName files f) argument_of wanted.Value
      → InRange Uint32 (pos (number_of (text_at f.src.now word)))
      → PlaceHolds files f (a_number argument_of word)
  of_members : (values : ValuesKind) (underlying : Option Path) (members : List ValueMember)
      (kind : NumberKind) → UnderlyingIs files f values underlying (Some kind)
      → AllByRecursion (MemberHolds files f kind) members
      → PlaceHolds files f (a_members values underlying members)
  of_named_count : (argument_of : Option Path) (path : Path) (cs : List Value) (k : PlainValue)
      → Wants (IsArrayName files f) argument_of wanted.Value
      → NameGives files f path (ty.Number Uint32) k
      → PlaceHolds files f (a_type argument_of path cs)
  of_type : (argument_of : Option Path) (path : Path) (cs : List Value) (m end : Meaning)
      → Wants (IsArrayName files f) argument_of wanted.«Type»
      → Means files f wanted.«Type» (texts f.src.now path) m
      → ResolvesTo files m end → ConstraintsHold files f end cs
      → PlaceHolds files f (a_type argument_of path cs)
  of_no_type : (argument_of : Option Path) (path : Path) (cs : List Value)
      → Wants (IsArrayName files f) argument_of wanted.«Type»
      → ((m : Meaning) → Means files f wanted.«Type» (texts f.src.now path) m → ⊥)
      → PlaceHolds files f (a_type argument_of path cs)

pub data PlaceFails (files : List File) (f : File) (number : ℕ) (fault : ConstFault) : NamePlace
    → Type 0 where
  of_count : (argument_of : Option Path) (word : Span)
      → Wants (IsArrayName files f) argument_of wanted.Value
      → (InRange Uint32 (pos (number_of (text_at f.src.now word))) → ⊥)
      → fault ≡ OutOfRange (at number word)
      → PlaceFails files f number fault (a_number argument_of word)
  of_underlying : (values : ValuesKind) (underlying : Option Path) (members : List ValueMember)
      → UnderlyingFails files f number values underlying fault
      → PlaceFails files f number fault (a_members values underlying members)
  of_member : (values : ValuesKind) (underlying : Option Path) (members : List ValueMember)
      (kind : NumberKind) → UnderlyingIs files f values underlying (Some kind)
      → MembersFail files f number kind members fault
      → PlaceFails files f number fault (a_members values underlying members)
  of_named_count : (argument_of : Option Path) (path : Path) (cs : List Value)
      → Wants (IsArrayName files f) argument_of wanted.Value
      → NameFails files f number (ty.Number Uint32) path fault
      → PlaceFails files f number fault (a_type argument_of path cs)
  of_type : (argument_of : Option Path) (path : Path) (cs : List Value) (m end : Meaning)
      → Wants (IsArrayName files f) argument_of wanted.«Type»
      → Means files f wanted.«Type» (texts f.src.now path) m
      → ResolvesTo files m end → ConstraintsFail files f number end cs fault
      → PlaceFails files f number fault (a_type argument_of path cs)

-- each place of a declaration, and of a file's declarations
abbrev pub DeclarationHolds : List File → File → Body → Type 0
DeclarationHolds files f body = AllByRecursion (PlaceHolds files f) (body_places body)

abbrev pub PlacesHold : List File → File → Type 0
PlacesHold files f = AllByRecursion
    (λ (d : Declaration). DeclarationHolds files f (declared_view d.body)) f.declarations.items

pub record DeclarationFails (files : List File) (f : File) (number : ℕ) (body : Body)
    (fault : ConstFault) : Type 0 where
  pub place : NamePlace
  pub stands : Contains (body_places body) place
  pub fails : PlaceFails files f number fault place
