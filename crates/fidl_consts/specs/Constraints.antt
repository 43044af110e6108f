-- The values that the constraints of types owe, and their refusals (docs/language.md, "Places of
-- values").
use Rattle.std.specs.Prelude.{ℕ, ◌≡◌, ◌⊎◌, Bool, true, false, List, Option, Some, None, slice_get}
use Rattle.fidl_tree.specs.declared.file.File.{File}
use Rattle.fidl_tree.specs.Syntax.{Path, Value, ValuesKind}
use Rattle.fidl_tree.specs.Views.{value_view, kind_view}
use Rattle.fidl_tree.specs.declared.value_member.ValueMember as tree
use Rattle.fidl_tree.specs.declared.declaration.Property.{Property}
use Rattle.fidl_tree.specs.declared.type_constructor.ValuesLayout.{ValuesLayout, out-ValuesLayout}
use Rattle.fidl_named.specs.declared.place.DeclarationId.{DeclarationId}
use Rattle.fidl_named.specs.declared.place.PropertyId.{PropertyId}
use Rattle.fidl_named.specs.declared.meaning.Predeclared.TheVariants as name
use Rattle.fidl_named.specs.declared.meaning.Meaning.{Meaning}
use Rattle.fidl_named.specs.declared.meaning.Meaning.TheVariants as meaning
use Rattle.fidl_named.specs.Paths.{path_place}
use Rattle.fidl_named.specs.Constraints.{ItemMeans, IsPropertyFor, ordinary, path_alone}
use Rattle.fidl_consts.specs.declared.fault.ConstFault.{ConstFault}
use Rattle.fidl_consts.specs.declared.fault.ConstFault.TheVariants.{WrongKind}
use Rattle.fidl_consts.specs.declared.const_type.NumberKind.{NumberKind}
use Rattle.fidl_consts.specs.declared.const_type.NumberKind.TheVariants.{Uint32}
use Rattle.fidl_consts.specs.declared.const_type.ConstType.{ConstType}
use Rattle.fidl_consts.specs.declared.const_type.ConstType.TheVariants as ty
use Rattle.fidl_consts.specs.PlainValues.{PlainValue}
use Rattle.fidl_consts.specs.Types.{IsPropertyValues, IsMemberOf, PropertyIs, LayoutIs}
use Rattle.fidl_consts.specs.Types.{UnderlyingIs}
use Rattle.fidl_consts.specs.Types.{path_of}
use Rattle.fidl_consts.specs.Values.{HasValue, ValueIs, Gives}
use Rattle.fidl_consts.specs.Refusals.{value_span, at, Misfits, ValueFails}

-- bits or an enum are of a number type that they may be of, or refused at its name
abbrev pub UnderlyingFails : List File → File → (number : ℕ) → ValuesKind → Option Path
    → ConstFault → Type 0
UnderlyingFails files f n values None fault = ⊥
UnderlyingFails files f n values (Some path) fault = UnderlyingIs files f values (Some path) None
    × (fault ≡ WrongKind (at n (path_place path)))

-- the same of a layout
abbrev pub LayoutFails : List File → File → (number : ℕ) → ValuesLayout → ConstFault → Type 0
LayoutFails files f n l fault = UnderlyingFails files f n (kind_view (out-ValuesLayout l).keyword)
    (path_of (out-ValuesLayout l).underlying) fault

-- a type's constraints are bounds, by what its name resolves to
abbrev pub is_bounded : Meaning → Bool
is_bounded (meaning.Predeclared name.String) = true
is_bounded (meaning.Predeclared name.Vector) = true
is_bounded (meaning.Predeclared name.Bytes) = true
is_bounded _ = false

-- the member of this number of the bits or the enum that a property is written as
abbrev pub member_of_property : PropertyId → (number : ℕ) → Meaning
member_of_property p number = meaning.PropertyMember p.id p.number number

-- a member of the bits or the enum that a property is written as
pub data HasPropertyValue (files : List File) : Meaning → Type 0 where
  member : (p : DeclarationId) (n : ℕ) (f : File) (l : ValuesLayout) (i : ℕ) (m : tree.ValueMember)
      → IsPropertyValues files p n f l → IsMemberOf l i m
      → HasPropertyValue files (meaning.PropertyMember p n i)

-- what a constraint's name means has a value of its own
abbrev pub HasItemValue : List File → Meaning → Type 0
HasItemValue files m = HasValue files m ⊎ HasPropertyValue files m

-- the member of a property that a constraint names is refused, where it is written
pub data PropertyMemberFails (files : List File) (fault : ConstFault) : Meaning → Type 0 where
  underlying : (p : DeclarationId) (n : ℕ) (f : File) (l : ValuesLayout) (i : ℕ)
      → IsPropertyValues files p n f l
      → LayoutFails files f p.file l fault
      → PropertyMemberFails files fault (meaning.PropertyMember p n i)
  value : (p : DeclarationId) (n : ℕ) (f : File) (l : ValuesLayout) (kind : NumberKind) (i : ℕ)
      (m : tree.ValueMember) → IsPropertyValues files p n f l → LayoutIs files f l (Some kind)
      → IsMemberOf l i m
      → ValueFails files f p.file (ty.Number kind) fault (value_view m.value)
      → PropertyMemberFails files fault (meaning.PropertyMember p n i)

-- a constraint that is just a name has the value that its meaning gives
pub record ItemNameGives (files : List File) (f : File) (end : Meaning) (rank : ℕ) (t : ConstType)
    (path : Path) (k : PlainValue) : Type 0 where
  pub meaning : Meaning
  pub means : ItemMeans files f (Some end) rank path meaning
  pub gives : Gives files meaning t k

-- it is refused: it means nothing, or what has no value, a member that is refused, or what doesn't
-- suit or fit
pub data ItemNameFails (files : List File) (f : File) (number : ℕ) (end : Meaning) (rank : ℕ)
    (t : ConstType) (path : Path) (fault : ConstFault) : Type 0 where
  nothing : ((m : Meaning) → ItemMeans files f (Some end) rank path m → ⊥)
      → fault ≡ WrongKind (at number (path_place path))
      → ItemNameFails files f number end rank t path fault
  valueless : (m : Meaning) → ItemMeans files f (Some end) rank path m → (HasItemValue files m → ⊥)
      → fault ≡ WrongKind (at number (path_place path))
      → ItemNameFails files f number end rank t path fault
  member : (m : Meaning) → ItemMeans files f (Some end) rank path m
      → PropertyMemberFails files fault m → ItemNameFails files f number end rank t path fault
  misfit : (m : Meaning) → ItemMeans files f (Some end) rank path m
      → Misfits files m t (at number (path_place path)) fault
      → ItemNameFails files f number end rank t path fault

-- a handle's constraint has a value at the property's type: a name by what it means there, else an
-- expression
pub data ItemIs (files : List File) (f : File) (end : Meaning) (rank : ℕ) (t : ConstType)
    (v : Value) (k : PlainValue) : Type 0 where
  by_name : (path : Path) → path_alone v ≡ Some path → ItemNameGives files f end rank t path k
      → ItemIs files f end rank t v k
  expression : path_alone v ≡ None → ValueIs files f t v k → ItemIs files f end rank t v k

pub data ItemFails (files : List File) (f : File) (number : ℕ) (end : Meaning) (rank : ℕ)
    (t : ConstType) (v : Value) (fault : ConstFault) : Type 0 where
  by_name : (path : Path) → path_alone v ≡ Some path
      → ItemNameFails files f number end rank t path fault
      → ItemFails files f number end rank t v fault
  expression : path_alone v ≡ None → ValueFails files f number t fault v
      → ItemFails files f number end rank t v fault

-- the type of the property that a constraint is for
pub record PropertyWants (files : List File) (end : Meaning) (rank : ℕ) (t : Option ConstType)
    : Type 0 where
  pub id : DeclarationId
  pub file : File
  pub number : ℕ
  pub property : Property
  pub is_for : IsPropertyFor files (Some end) rank id file number property
  pub is : PropertyIs files id number file property.constructor t

-- a handle's constraint has this value, at the type of the property that it is for
pub record HandleValueIs (files : List File) (f : File) (end : Meaning) (rank : ℕ) (v : Value)
    (k : PlainValue) : Type 0 where
  pub own : ConstType
  pub wants : PropertyWants files end rank (Some own)
  pub is : ItemIs files f end rank own v k

-- it is refused at that type, or since the property's type is none of constants
pub data HandleValueFails (files : List File) (f : File) (number : ℕ) (end : Meaning) (rank : ℕ)
    (v : Value) (fault : ConstFault) : Type 0 where
  value : (t : ConstType) → PropertyWants files end rank (Some t)
      → ItemFails files f number end rank t v fault
      → HandleValueFails files f number end rank v fault
  no_type : PropertyWants files end rank None → fault ≡ WrongKind (at number (value_span v))
      → HandleValueFails files f number end rank v fault

-- no property wants a constraint of this rank of a type that resolves to this
abbrev pub IsForNoProperty : List File → (end : Meaning) → (rank : ℕ) → Type 0
IsForNoProperty files end rank = (p : DeclarationId) (g : File) (n : ℕ) (m : Property)
    → IsPropertyFor files (Some end) rank p g n m → ⊥

-- an ordinary constraint has the value that it owes: a bound, or what a property wants; another
-- owes none
pub data ConstraintHolds (files : List File) (f : File) (end : Meaning) (rank : ℕ) (v : Value)
    : Type 0 where
  bound : (k : PlainValue) → is_bounded end ≡ true → ValueIs files f (ty.Number Uint32) v k
      → ConstraintHolds files f end rank v
  property : (k : PlainValue) → HandleValueIs files f end rank v k
      → ConstraintHolds files f end rank v
  free : is_bounded end ≡ false → IsForNoProperty files end rank
      → ConstraintHolds files f end rank v

pub data ConstraintFails (files : List File) (f : File) (number : ℕ) (end : Meaning) (rank : ℕ)
    (v : Value) (fault : ConstFault) : Type 0 where
  bound : is_bounded end ≡ true → ValueFails files f number (ty.Number Uint32) fault v
      → ConstraintFails files f number end rank v fault
  property : HandleValueFails files f number end rank v fault
      → ConstraintFails files f number end rank v fault

-- each ordinary constraint of a type has
abbrev pub ConstraintsHold : List File → File → Meaning → List Value → Type 0
ConstraintsHold files f end cs = (rank : ℕ) (v : Value) → slice_get (ordinary f cs) rank ≡ Some v
    → ConstraintHolds files f end rank v

pub record ConstraintsFail (files : List File) (f : File) (number : ℕ) (end : Meaning)
    (cs : List Value) (fault : ConstFault) : Type 0 where
  pub rank : ℕ
  pub value : Value
  pub stands : slice_get (ordinary f cs) rank ≡ Some value
  pub fails : ConstraintFails files f number end rank value fault
