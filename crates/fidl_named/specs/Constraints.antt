-- Constraints: which name a type's constraint is, and what it means (docs/language.md,
-- "Constraints").
use Rattle.std.specs.Prelude.{ℕ, zero, suc, Bool, false, not, ◌≡◌, if◌then◌else◌, List, [], ◌∷◌}
use Rattle.std.specs.Prelude.{Option, Some, None, map, option_map, codes, slice_get}
use Rattle.std.specs.List.{AllByRecursion, Contains, filter}
use Rattle.fidl_tree.specs.Leaf.{text_at}
use Rattle.fidl_tree.specs.Syntax.{Path, Value, bitwise_or, no_operands, path_operand}
use Rattle.fidl_tree.specs.declared.path.Path as tree
use Rattle.fidl_tree.specs.declared.file.File.{File}
use Rattle.fidl_tree.specs.declared.declaration.Declaration.{Declaration}
use Rattle.fidl_tree.specs.declared.declaration.Property.{Property}
use Rattle.fidl_tree.specs.declared.declaration.ResourceDefinition.{ResourceDefinition}
use Rattle.fidl_tree.specs.declared.declaration.DeclarationBody.{DeclarationBody}
use Rattle.fidl_tree.specs.declared.declaration.DeclarationBody.TheVariants.{Alias}
use Rattle.fidl_tree.specs.declared.declaration.DeclarationBody.TheVariants.{«Type» as Declared}
use Rattle.fidl_tree.specs.declared.declaration.DeclarationBody.TheVariants.{Resource}
use Rattle.fidl_tree.specs.declared.value_member.ValueMember.{ValueMember}
use Rattle.fidl_tree.specs.declared.type_constructor.TypeConstructor.{TypeConstructor}
use Rattle.fidl_tree.specs.declared.type_constructor.TypeConstructor.{out-TypeConstructor}
use Rattle.fidl_tree.specs.declared.type_constructor.Layout.{Layout, out-Layout}
use Rattle.fidl_tree.specs.declared.type_constructor.LayoutBody.TheOpen.{TypeConstructor-F}
use Rattle.fidl_named.specs.declared.place.DeclarationId.{DeclarationId}
use Rattle.fidl_named.specs.declared.fault.NameFault.{NameFault}
use Rattle.fidl_named.specs.declared.meaning.Wanted.{Wanted}
use Rattle.fidl_named.specs.declared.meaning.Wanted.TheVariants as wanted
use Rattle.fidl_named.specs.declared.meaning.Predeclared.TheVariants as name
use Rattle.fidl_named.specs.declared.meaning.Meaning.{Meaning}
use Rattle.fidl_named.specs.declared.meaning.Meaning.TheVariants as meaning
use Rattle.fidl_named.specs.Imports.{same}
use Rattle.fidl_named.specs.Meanings.{components, dotted, layout_members, Means}
use Rattle.fidl_named.specs.Paths.{texts}
use Rattle.fidl_named.specs.Paths.{IsTrueOfPath}
use Rattle.fidl_named.specs.Aliases.{type_path, ResolvesTo}
use Rattle.fidl_named.specs.Places.{value_paths}

-- the path that a value is just, if it is one
abbrev pub path_alone : Value → Option Path
path_alone (bitwise_or (path_operand path) no_operands) = Some path
path_alone _ = None

-- it is the word `optional`, which is no name among constraints
abbrev is_word : File → Option Path → Bool
is_word f None = false
is_word f (Some p) = same (dotted (texts f.src.now p)) (codes "optional")

abbrev pub is_optional : File → Value → Bool
is_optional f v = is_word f (path_alone v)

-- the constraints that aren't this word, in order
abbrev pub ordinary : File → List Value → List Value
ordinary f constraints = filter (λ v. not (is_optional f v)) constraints

-- the kind that a constraint wants, by what its type resolves to: a protocol for an end, else a
-- value
abbrev pub item_kind : Option Meaning → Wanted
item_kind (Some (meaning.Predeclared name.ClientEnd)) = wanted.Protocol
item_kind (Some (meaning.Predeclared name.ServerEnd)) = wanted.Protocol
item_kind _ = wanted.Value

-- the property that an ordinary constraint of a resource definition's handle is for, by its number
abbrev pub property_of : ℕ → Option (List ℕ)
property_of zero = Some (codes "subtype")
property_of (suc zero) = Some (codes "rights")
property_of _ = None

-- the number of a name in a list, of the first if several are the same
abbrev pub number_in : List (List ℕ) → List ℕ → Option ℕ
number_in [] n = None
number_in (x ∷ xs) n = if same x n then Some 0 else option_map suc (number_in xs n)

-- the layout that a type is, if it is written as one
abbrev pub type_layout : TypeConstructor → Option Layout
type_layout t = elim (out-TypeConstructor t) as (λ _. Option Layout) [
  | TypeConstructor-F.Layout l c ↦ Some l.value
  | TypeConstructor-F.Named n ↦ None
]

-- the members of bits or an enum that a type is, if it is written as such
abbrev pub members_in : Option Layout → List ValueMember
members_in None = []
members_in (Some l) = layout_members (out-Layout l).body

abbrev pub written_members : TypeConstructor → List ValueMember
written_members t = members_in (type_layout t)

-- the members of declared bits or a declared enum, or of those that an alias resolves to
abbrev pub declared_members : DeclarationBody → List ValueMember
declared_members (Declared d) = layout_members (out-Layout d.layout).body
declared_members (Alias d) = written_members d.constructor
declared_members _ = []

-- the names of members
abbrev pub texts_of : File → List ValueMember → List (List ℕ)
texts_of f members = map (λ (m : ValueMember). text_at f.src.now m.name) members

-- a declaration, by its id
pub record IsDeclarationAt (files : List File) (p : DeclarationId) (f : File) (d : Declaration)
    : Type 0 where
  pub file_at : slice_get files p.file ≡ Some f
  pub stands : slice_get f.declarations.items p.index ≡ Some d

-- a member, by its name, of the declared bits or enum that a name in a file resolves to
pub record IsDeclaredMember (files : List File) (f : File) (q : tree.Path) (n : List ℕ)
    (m : Meaning) : Type 0 where
  pub first : Meaning
  pub id : DeclarationId
  pub file : File
  pub declaration : Declaration
  pub number : ℕ
  pub means : Means files f wanted.«Type» (components f.src.now q) first
  pub resolved : ResolvesTo files first (meaning.Declared id)
  pub stands : IsDeclarationAt files id file declaration
  pub number_is : number_in (texts_of file (declared_members declaration.body)) n ≡ Some number
  pub is : m ≡ meaning.Member id number

-- a member, by its name, of the bits or the enum that a property has for its type: written there,
-- or declared
pub data IsPropertyMember (files : List File) (p : DeclarationId) (f : File) (property : ℕ)
    (t : TypeConstructor) (n : List ℕ) (m : Meaning) : Type 0 where
  written : (i : ℕ) → number_in (texts_of f (written_members t)) n ≡ Some i
      → m ≡ meaning.PropertyMember p property i → IsPropertyMember files p f property t n m
  declared : (q : tree.Path) → type_path t ≡ Some q → IsDeclaredMember files f q n m
      → IsPropertyMember files p f property t n m

-- the names of properties
abbrev pub property_names : File → List Property → List (List ℕ)
property_names f properties = map (λ (p : Property). text_at f.src.now p.name) properties

-- the property that a constraint is for, by what its type resolves to and its number among the
-- ordinary ones: the resource definition's id and file, and the property with its number
pub record IsPropertyFor (files : List File) (end : Option Meaning) (rank : ℕ) (p : DeclarationId)
    (f : File) (number : ℕ) (member : Property) : Type 0 where
  pub declaration : Declaration
  pub definition : ResourceDefinition
  pub name : List ℕ
  pub end_is : end ≡ Some (meaning.Declared p)
  pub at : IsDeclarationAt files p f declaration
  pub body : declaration.body ≡ Resource definition
  pub is_for : property_of rank ≡ Some name
  pub number_is : number_in (property_names f definition.properties.members.items) name
      ≡ Some number
  pub member_at : slice_get definition.properties.members.items number ≡ Some member

-- the same by ids: that of the resource definition, and the number of the property
pub record IsPropertyAt (files : List File) (end : Option Meaning) (rank : ℕ) (p : DeclarationId)
    (number : ℕ) : Type 0 where
  pub file : File
  pub member : Property
  pub is_for : IsPropertyFor files end rank p file number member

-- a constraint of one component that names a member of its property's bits or enum
pub record IsOfProperty (files : List File) (f : File) (end : Option Meaning) (rank : ℕ) (p : Path)
    (m : Meaning) : Type 0 where
  pub id : DeclarationId
  pub file : File
  pub number : ℕ
  pub property : Property
  pub name : List ℕ
  pub is_for : IsPropertyFor files end rank id file number property
  pub one_component : texts f.src.now p ≡ name ∷ []
  pub member : IsPropertyMember files id file number property.constructor name m

-- what a constraint means that is just a name, by what its type resolves to and its number among
-- the ordinary ones: a member of its property, else what the name means where its kind is wanted
pub data ItemMeans (files : List File) (f : File) (end : Option Meaning) (rank : ℕ) (p : Path)
    (m : Meaning) : Type 0 where
  of_property : IsOfProperty files f end rank p m → ItemMeans files f end rank p m
  ordinary_name : ((other : Meaning) → IsOfProperty files f end rank p other → ⊥)
      → Means files f (item_kind end) (texts f.src.now p) m → ItemMeans files f end rank p m

-- a name that no property has is refused
pub record NameOfItemFails (files : List File) (f : File) (file_number : ℕ) (end : Option Meaning)
    (rank : ℕ) (p : Path) (fault : NameFault) : Type 0 where
  pub no_property : (m : Meaning) → IsOfProperty files f end rank p m → ⊥
  pub fails : IsTrueOfPath files f file_number (item_kind end) p fault

-- a name in a value is refused
pub record NameOfValueFails (files : List File) (f : File) (file_number : ℕ) (v : Value)
    (fault : NameFault) : Type 0 where
  pub path : Path
  pub among : Contains (value_paths v) path
  pub fails : IsTrueOfPath files f file_number wanted.Value path fault

-- each name in a value means something, where a value is wanted
abbrev pub ValueMeans : List File → File → Value → Type 0
ValueMeans files f v =
    AllByRecursion (λ p. (m : Meaning) × Means files f wanted.Value (texts f.src.now p) m)
    (value_paths v)

-- each name in a constraint means something
abbrev pub name_or_value : List File → File → Option Meaning → ℕ → Value → Option Path → Type 0
name_or_value files f end rank v (Some p) = (m : Meaning) × ItemMeans files f end rank p m
name_or_value files f end rank v None = ValueMeans files f v

abbrev pub ItemHolds : List File → File → Option Meaning → ℕ → Value → Type 0
ItemHolds files f end rank v = name_or_value files f end rank v (path_alone v)

-- a name in a constraint is refused
abbrev pub name_or_value_fails : List File → File → ℕ → Option Meaning → ℕ → Value → NameFault
    → Option Path → Type 0
name_or_value_fails files f file_number end rank v fault (Some p) =
    NameOfItemFails files f file_number end rank p fault
name_or_value_fails files f file_number end rank v fault None =
    NameOfValueFails files f file_number v fault

abbrev pub ItemFails : List File → File → ℕ → Option Meaning → ℕ → Value → NameFault → Type 0
ItemFails files f file_number end rank v fault =
    name_or_value_fails files f file_number end rank v fault (path_alone v)

-- each name in a type's constraints means something, where the type resolves to this
abbrev pub ItemsHold : List File → File → Option Meaning → List Value → Type 0
ItemsHold files f end cs =
    (rank : ℕ) (v : Value) → slice_get (ordinary f cs) rank ≡ Some v → ItemHolds files f end rank v

-- a name in one of them is refused
pub record ItemsFail (files : List File) (f : File) (file_number : ℕ) (end : Option Meaning)
    (cs : List Value) (fault : NameFault) : Type 0 where
  pub rank : ℕ
  pub value : Value
  pub stands : slice_get (ordinary f cs) rank ≡ Some value
  pub fails : ItemFails files f file_number end rank value fault
