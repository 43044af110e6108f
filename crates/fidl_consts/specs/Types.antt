-- Which types constants, members and constraints have (docs/language.md, "Types of constants").
use Rattle.std.specs.Prelude.{ℕ, ◌≡◌, true, if◌then◌else◌, List, Option, Some, None, option_map}
use Rattle.std.specs.Prelude.{slice_get}
use Rattle.fidl_tree.specs.declared.file.File.{File}
use Rattle.fidl_tree.specs.Syntax.{Path, Value, ValuesKind, bits_kind, enum_kind}
use Rattle.fidl_tree.specs.Views.{path_view, constraints_view, kind_view}
use Rattle.fidl_tree.specs.declared.keyword.ValuesKeyword.{ValuesKeyword}
use Rattle.fidl_tree.specs.declared.keyword.ValuesKeyword.TheVariants.{Bits, Enum}
use Rattle.fidl_tree.specs.declared.value_member.ValueMember.{ValueMember}
use Rattle.fidl_tree.specs.declared.declaration.Declaration.{Declaration}
use Rattle.fidl_tree.specs.declared.declaration.ConstDeclaration.{ConstDeclaration}
use Rattle.fidl_tree.specs.declared.declaration.Property.{Property}
use Rattle.fidl_tree.specs.declared.declaration.ResourceDefinition.{ResourceDefinition}
use Rattle.fidl_tree.specs.declared.declaration.DeclarationBody.{DeclarationBody}
use Rattle.fidl_tree.specs.declared.declaration.DeclarationBody.TheVariants.{Const, Alias}
use Rattle.fidl_tree.specs.declared.declaration.DeclarationBody.TheVariants.{«Type» as Declared}
use Rattle.fidl_tree.specs.declared.declaration.DeclarationBody.TheVariants.{Resource}
use Rattle.fidl_tree.specs.declared.type_constructor.TypeConstructor.{TypeConstructor}
use Rattle.fidl_tree.specs.declared.type_constructor.TypeConstructor.{out-TypeConstructor}
use Rattle.fidl_tree.specs.declared.type_constructor.NamedType.{out-NamedType}
use Rattle.fidl_tree.specs.declared.type_constructor.Layout.{Layout, out-Layout}
use Rattle.fidl_tree.specs.declared.type_constructor.LayoutBody.{LayoutBody, out-LayoutBody}
use Rattle.fidl_tree.specs.declared.type_constructor.ValuesLayout.{ValuesLayout, out-ValuesLayout}
use Rattle.fidl_tree.specs.declared.type_constructor.Underlying.{Underlying, out-Underlying}
use Rattle.fidl_tree.specs.declared.type_constructor.LayoutBody.TheOpen.{TypeConstructor-F}
use Rattle.fidl_tree.specs.declared.type_constructor.LayoutBody.TheOpen.{LayoutBody-F}
use Rattle.fidl_named.specs.declared.place.DeclarationId.{DeclarationId}
use Rattle.fidl_named.specs.declared.meaning.Wanted.TheVariants as wanted
use Rattle.fidl_named.specs.declared.meaning.Predeclared.{Predeclared}
use Rattle.fidl_named.specs.declared.meaning.Predeclared.TheVariants as name
use Rattle.fidl_named.specs.declared.meaning.Meaning.{Meaning}
use Rattle.fidl_named.specs.declared.meaning.Meaning.TheVariants as meaning
use Rattle.fidl_named.specs.Meanings.{Means}
use Rattle.fidl_named.specs.Paths.{texts}
use Rattle.fidl_named.specs.Aliases.{type_path, ResolvesTo}
use Rattle.fidl_named.specs.Constraints.{IsDeclarationAt, type_layout}
use Rattle.fidl_consts.specs.declared.const_type.NumberKind.{NumberKind}
use Rattle.fidl_consts.specs.declared.const_type.NumberKind.TheVariants.{Uint32}
use Rattle.fidl_consts.specs.declared.const_type.BitsOrEnum.TheVariants as layout
use Rattle.fidl_consts.specs.declared.const_type.ConstType.{ConstType}
use Rattle.fidl_consts.specs.declared.const_type.ConstType.TheVariants as ty
use Rattle.fidl_consts.specs.PlainValues.{predeclared_type, is_unsigned}

-- the constant that is declared under an id
pub record IsConstAt (files : List File) (p : DeclarationId) (f : File) (c : ConstDeclaration)
    : Type 0
  where
    pub declaration : Declaration
    pub at : IsDeclarationAt files p f declaration
    pub body : declaration.body ≡ Const c

-- the bits or the enum that a layout is
abbrev pub values_in : LayoutBody → Option ValuesLayout
values_in body = elim (out-LayoutBody body) as (λ _. Option ValuesLayout) [
  | LayoutBody-F.Values l ↦ Some l
  | _ ↦ None
]

-- the same of a type that may be written as a layout
abbrev values_of_layout : Option Layout → Option ValuesLayout
values_of_layout None = None
values_of_layout (Some l) = values_in (out-Layout l).body

abbrev pub written_values : TypeConstructor → Option ValuesLayout
written_values t = values_of_layout (type_layout t)

-- the bits or the enum that a declaration is written as
abbrev pub declared_values : DeclarationBody → Option ValuesLayout
declared_values (Declared d) = values_in (out-Layout d.layout).body
declared_values (Alias d) = written_values d.constructor
declared_values _ = None

-- bits or an enum of a declaration's id
pub record IsValuesAt (files : List File) (p : DeclarationId) (f : File) (l : ValuesLayout) : Type 0
  where
    pub declaration : Declaration
    pub at : IsDeclarationAt files p f declaration
    pub is : declared_values declaration.body ≡ Some l

-- the member of this number of bits or an enum
abbrev pub IsMemberOf : ValuesLayout → (number : ℕ) → ValueMember → Type 0
IsMemberOf l number m = slice_get (out-ValuesLayout l).members.items number ≡ Some m

-- bits or an enum that a property of a resource definition is written as
pub record IsPropertyValues (files : List File) (p : DeclarationId) (number : ℕ) (f : File)
    (l : ValuesLayout) : Type 0 where
  pub declaration : Declaration
  pub definition : ResourceDefinition
  pub property : Property
  pub at : IsDeclarationAt files p f declaration
  pub body : declaration.body ≡ Resource definition
  pub property_at : slice_get definition.properties.members.items number ≡ Some property
  pub is : written_values property.constructor ≡ Some l

-- the type of constants that a meaning is which is no alias, if it is one
pub data EndIs (files : List File) : Meaning → Option ConstType → Type 0 where
  predeclared : (n : Predeclared) → EndIs files (meaning.Predeclared n) (predeclared_type n)
  values : (p : DeclarationId) (f : File) (l : ValuesLayout) → IsValuesAt files p f l
      → EndIs files (meaning.Declared p) (Some (ty.Values (layout.Declared p)))
  no_values : (p : DeclarationId) → ((f : File) (l : ValuesLayout) → IsValuesAt files p f l → ⊥)
      → EndIs files (meaning.Declared p) None
  member : (p : DeclarationId) (i : ℕ) → EndIs files (meaning.Member p i) None
  property_member : (p : DeclarationId) (n i : ℕ) → EndIs files (meaning.PropertyMember p n i) None

-- the type of constants that a name in a file resolves to, if it resolves to one
pub data NameIs (files : List File) (f : File) (path : Path) : Option ConstType → Type 0 where
  meant : (m end : Meaning) (t : Option ConstType)
      → Means files f wanted.«Type» (texts f.src.now path) m → ResolvesTo files m end
      → EndIs files end t → NameIs files f path t
  unmeant : ((m : Meaning) → Means files f wanted.«Type» (texts f.src.now path) m → ⊥)
      → NameIs files f path None

-- the name that a type is given by
abbrev pub own_path : TypeConstructor → Option Path
own_path t = option_map path_view (type_path t)

-- the type of constants that a written type is, if it is one: a layout is none, since no name leads
-- to its values
pub data TypeIs (files : List File) (f : File) (t : TypeConstructor) : Option ConstType
    → Type 0 where
  written : own_path t ≡ None → TypeIs files f t None
  named : (path : Path) (found : Option ConstType) → own_path t ≡ Some path
      → NameIs files f path found → TypeIs files f t found

-- a type that is the predeclared string, aliases followed
pub record IsStringType (files : List File) (f : File) (t : TypeConstructor) : Type 0 where
  pub path : Path
  pub first : Meaning
  pub path_is : own_path t ≡ Some path
  pub means : Means files f wanted.«Type» (texts f.src.now path) first
  pub resolved : ResolvesTo files first (meaning.Predeclared name.String)

-- the type of constants that a property's type is, if it is one: the members of its layout can be
-- named in constraints
pub data PropertyIs (files : List File) (p : DeclarationId) (number : ℕ) (f : File)
    (t : TypeConstructor)
    : Option ConstType → Type 0 where
  written : (l : ValuesLayout) → written_values t ≡ Some l
      → PropertyIs files p number f t (Some (ty.Values (layout.Property p number)))
  other : (found : Option ConstType) → written_values t ≡ None → TypeIs files f t found
      → PropertyIs files p number f t found

-- the whole numbers that bits or an enum may be of: unsigned ones for bits
abbrev pub underlying_kind : ValuesKind → Option ConstType → Option NumberKind
underlying_kind enum_kind (Some (ty.Number kind)) = Some kind
underlying_kind bits_kind (Some (ty.Number kind)) = if is_unsigned kind then Some kind else None
underlying_kind _ _ = None

-- the underlying type of bits or an enum, by its name: uint32 where none is written. It may be none
-- of the whole numbers
pub data UnderlyingIs (files : List File) (f : File) (values : ValuesKind) : Option Path
    → Option NumberKind → Type 0 where
  unwritten : UnderlyingIs files f values None (Some Uint32)
  written : (path : Path) (t : Option ConstType) → NameIs files f path t
      → UnderlyingIs files f values (Some path) (underlying_kind values t)

-- the name of a layout's underlying type
abbrev pub path_of : Option Underlying → Option Path
path_of None = None
path_of (Some u) = Some (path_view (out-NamedType (out-Underlying u).named).path)

-- the numbers of a layout's members are of this kind
abbrev pub LayoutIs : List File → File → ValuesLayout → Option NumberKind → Type 0
LayoutIs files f l kind = UnderlyingIs files f (kind_view (out-ValuesLayout l).keyword)
    (path_of (out-ValuesLayout l).underlying) kind

-- bits, and no enum
abbrev pub IsBits : ValuesKeyword → Type 0
IsBits (Bits s) = Unit {0}
IsBits (Enum s) = ⊥

-- types whose values `|` joins: unsigned numbers, and bits
pub data Joins (files : List File) : ConstType → Type 0 where
  numbers : (kind : NumberKind) → is_unsigned kind ≡ true → Joins files (ty.Number kind)
  declared : (p : DeclarationId) (f : File) (l : ValuesLayout) → IsValuesAt files p f l
      → IsBits (out-ValuesLayout l).keyword → Joins files (ty.Values (layout.Declared p))
  property : (p : DeclarationId) (number : ℕ) (f : File) (l : ValuesLayout)
      → IsPropertyValues files p number f l → IsBits (out-ValuesLayout l).keyword
      → Joins files (ty.Values (layout.Property p number))

-- the constraints of a type
abbrev pub constraints_of : TypeConstructor → List Value
constraints_of t = elim (out-TypeConstructor t) as (λ _. List Value) [
  | TypeConstructor-F.Named n ↦ constraints_view (out-NamedType n.value).constraints
  | TypeConstructor-F.Layout l cs ↦ constraints_view cs
]
