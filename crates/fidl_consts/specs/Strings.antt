-- How long the strings of a type may be (docs/language.md, "Values").
use Rattle.std.specs.Prelude.{ℕ, ◌≡◌, ◌<◌, ◌≤◌, pos, true, false, List, Some}
use Rattle.std.specs.List.{Contains}
use Rattle.fidl_tree.specs.declared.file.File.{File}
use Rattle.fidl_tree.specs.Syntax.{Path, Value}
use Rattle.fidl_tree.specs.Views.{value_view, type_view}
use Rattle.fidl_tree.specs.declared.declaration.ConstDeclaration.{ConstDeclaration}
use Rattle.fidl_tree.specs.declared.declaration.AliasDeclaration.{AliasDeclaration}
use Rattle.fidl_tree.specs.declared.type_constructor.TypeConstructor.{TypeConstructor}
use Rattle.fidl_named.specs.declared.place.DeclarationId.{DeclarationId}
use Rattle.fidl_named.specs.declared.meaning.Wanted.TheVariants as wanted
use Rattle.fidl_named.specs.declared.meaning.Meaning.TheVariants as meaning
use Rattle.fidl_named.specs.Meanings.{Means}
use Rattle.fidl_named.specs.Paths.{texts}
use Rattle.fidl_named.specs.Aliases.{IsAliasAt}
use Rattle.fidl_named.specs.Constraints.{ordinary, is_optional}
use Rattle.fidl_consts.specs.declared.fault.ConstFault.{ConstFault}
use Rattle.fidl_consts.specs.declared.fault.ConstFault.TheVariants.{OutOfRange, WrongKind}
use Rattle.fidl_consts.specs.declared.const_type.NumberKind.TheVariants.{Uint32}
use Rattle.fidl_consts.specs.declared.const_type.ConstType.TheVariants as ty
use Rattle.fidl_consts.specs.PlainValues.{a_number}
use Rattle.fidl_consts.specs.Types.{constraints_of, own_path}
use Rattle.fidl_consts.specs.Values.{ValueIs}
use Rattle.fidl_consts.specs.Refusals.{value_span, type_span, at, ValueFails}

mutual
  -- a constraint of a type, or of an alias that the type's name leads to, with its file
  pub data IsConstraintOf (files : List File) : (number : ℕ) → File → TypeConstructor
      → (of_number : ℕ) → File → Value → Type 0 where
    own : (number : ℕ) (f : File) (t : TypeConstructor) (v : Value)
        → Contains (constraints_of t) v → IsConstraintOf files number f t number f v
    inherited : (number : ℕ) (f : File) (t : TypeConstructor) (of_number : ℕ) (h : File) (v : Value)
        → IsInheritedConstraint files number f t of_number h v
        → IsConstraintOf files number f t of_number h v

  -- one of the alias that the type's name means
  pub data IsInheritedConstraint (files : List File) : (number : ℕ) → File → TypeConstructor
      → (of_number : ℕ) → File → Value → Type 0 where
    alias : (number : ℕ) (f : File) (t : TypeConstructor) (path : Path) (p : DeclarationId)
        (g : File)
        (a : AliasDeclaration) (of_number : ℕ) (h : File) (v : Value) → own_path t ≡ Some path
        → Means files f wanted.«Type» (texts f.src.now path) (meaning.Declared p)
        → IsAliasAt files p g a → IsConstraintOf files p.file g a.constructor of_number h v
        → IsInheritedConstraint files number f t of_number h v

-- a constraint is a bound that this many bytes keep to
pub record Allows (files : List File) (f : File) (v : Value) (count : ℕ) : Type 0 where
  pub bound : ℕ
  pub no_word : is_optional f v ≡ false
  pub is : ValueIs files f (ty.Number Uint32) v (a_number (pos bound))
  pub within : count ≤ bound

-- each constraint of a string's type is one
abbrev pub TextFits : List File → (number : ℕ) → File → TypeConstructor → (count : ℕ) → Type 0
TextFits files n f t count = (of_number : ℕ) (h : File) (v : Value)
    → IsConstraintOf files n f t of_number h v → Allows files h v count

-- a constraint of a string's type is a bound that these bytes don't keep to
pub record IsExceeded (files : List File) (number : ℕ) (f : File) (t : TypeConstructor) (count : ℕ)
    : Type 0 where
  pub of_number : ℕ
  pub file : File
  pub value : Value
  pub bound : ℕ
  pub constraint : IsConstraintOf files number f t of_number file value
  pub is : ValueIs files file (ty.Number Uint32) value (a_number (pos bound))
  pub past : bound < count

-- one of them is the word `optional`
pub record IsOptionalText (files : List File) (number : ℕ) (f : File) (t : TypeConstructor) : Type 0
  where
    pub of_number : ℕ
    pub file : File
    pub value : Value
    pub constraint : IsConstraintOf files number f t of_number file value
    pub word : is_optional file value ≡ true

-- an ordinary constraint of a string's type is refused as a bound
pub record BoundFails (files : List File) (f : File) (number : ℕ) (values : List Value)
    (fault : ConstFault) : Type 0 where
  pub value : Value
  pub among : Contains values value
  pub fails : ValueFails files f number (ty.Number Uint32) fault value

-- a string of this length is refused as a constant's value
pub data TextFails (files : List File) (p : DeclarationId) (f : File) (c : ConstDeclaration)
    (count : ℕ)
    (fault : ConstFault) : Type 0 where
  long : IsExceeded files p.file f c.constructor count
      → fault ≡ OutOfRange (at p.file (value_span (value_view c.value)))
      → TextFails files p f c count fault
  optional : IsOptionalText files p.file f c.constructor
      → fault ≡ WrongKind (at p.file (type_span (type_view c.constructor)))
      → TextFails files p f c count fault
  bound : BoundFails files f p.file (ordinary f (constraints_of c.constructor)) fault
      → TextFails files p f c count fault
