-- What a type is behind its aliases, with all constraints that it is given on the way
-- (docs/language.md, "Types behind aliases").
use Rattle.std.specs.Prelude.{ℕ, ◌≡◌, List, [], ◌∷◌, ◌++◌, Option, Some, None, slice_get}
use Rattle.fidl_tree.specs.Syntax.{Path, Value, Attribute, TypeUse, named_type, layout_type}
use Rattle.fidl_tree.specs.Syntax.{Arguments, Layout}
use Rattle.fidl_tree.specs.Syntax.{Body, alias_body, type_body, resource_body}
use Rattle.fidl_tree.specs.Views.{declared_view}
use Rattle.fidl_tree.specs.declared.file.File.{File}
use Rattle.fidl_tree.specs.declared.declaration.Declaration.{Declaration}
use Rattle.fidl_named.specs.declared.place.DeclarationId.{DeclarationId}
use Rattle.fidl_named.specs.declared.meaning.Wanted.TheVariants as wanted
use Rattle.fidl_named.specs.declared.meaning.Predeclared.{Predeclared}
use Rattle.fidl_named.specs.declared.meaning.Meaning.{Meaning}
use Rattle.fidl_named.specs.declared.meaning.Meaning.TheVariants as meaning
use Rattle.fidl_named.specs.Meanings.{Means}
use Rattle.fidl_named.specs.Paths.{texts}
use Rattle.fidl_named.specs.Constraints.{IsDeclarationAt}

-- what a type is that is no alias: a predeclared type with its arguments, a layout, or the handle
-- of a resource definition
pub data Head : Type 0 where
  word_head : Predeclared → Arguments → Head
  layout_head : Layout → Head
  handle_head : DeclarationId → Head

-- a list of constraints, and the number of the file that it stands in
pub record Given : Type 0 where
  pub file : ℕ
  pub values : List Value

-- a type behind its aliases: its head, the number of the head's file, and the lists of constraints
-- that are written on the way, the use's first and that of the last alias last
pub record Core : Type 0 where
  pub file : ℕ
  pub head : Head
  pub given : List Given

-- the constraints that a use of a type has
abbrev pub constraints_in : TypeUse → List Value
constraints_in (named_type _ _ constraints) = constraints
constraints_in (layout_type _ _ constraints) = constraints

-- these constraints in the file of this number as a list of them, where some are written
abbrev pub list_of : (number : ℕ) → List Value → List Given
list_of number [] = []
list_of number (v ∷ vs) = record { file = number; values = v ∷ vs } ∷ []

-- the list of constraints of a use in the file of this number, if it has any
abbrev pub given_in : (number : ℕ) → TypeUse → List Given
given_in number t = list_of number (constraints_in t)

-- with these lists of constraints before the others
abbrev pub given_also : List Given → Core → Core
given_also gs c = record { file = c.file; head = c.head; given = gs ++ c.given }

-- What a type refers to at once.

-- in the file of this number: what is no alias, or the type that an alias stands for
pub data Target : Type 0 where
  ends : (number : ℕ) → Head → Target
  follows : (number : ℕ) → TypeUse → Target

-- what a name means as a type in the file of this number
pub record MeansType (files : List File) (number : ℕ) (path : Path) (m : Meaning) : Type 0 where
  pub file : File
  pub at : slice_get files number ≡ Some file
  pub means : Means files file wanted.«Type» (texts file.src.now path) m

-- what the name of a declaration refers to as a type
abbrev pub body_target : DeclarationId → Body → Option Target
body_target p (alias_body t) = Some (follows p.file t)
body_target p (type_body attributes l) = Some (ends p.file (layout_head l))
body_target p (resource_body underlying properties) = Some (ends p.file (handle_head p))
body_target p _ = None

-- the same of the declaration of an id
pub record IsDeclared (files : List File) (p : DeclarationId) (t : Target) : Type 0 where
  pub file : File
  pub declaration : Declaration
  pub at : IsDeclarationAt files p file declaration
  pub is : body_target p (declared_view declaration.body) ≡ Some t

-- what a meaning refers to as a type, with these arguments in the file of this number
abbrev pub MeaningRefersTo : List File → (number : ℕ) → Arguments → Meaning → Target → Type 0
MeaningRefersTo files number arguments (meaning.Predeclared w) t =
    t ≡ ends number (word_head w arguments)
MeaningRefersTo files number _ (meaning.Declared p) t = IsDeclared files p t
MeaningRefersTo files number _ _ t = ⊥

-- what a type in the file of this number refers to: a layout to itself, a name by what it means
pub data RefersTo (files : List File) (number : ℕ) : TypeUse → Target → Type 0 where
  by_layout : (attributes : List Attribute) (l : Layout) (cs : List Value)
      → RefersTo files number (layout_type attributes l cs) (ends number (layout_head l))
  by_name : (path : Path) (arguments : Arguments) (cs : List Value) (m : Meaning) (t : Target)
      → MeansType files number path m → MeaningRefersTo files number arguments m t
      → RefersTo files number (named_type path arguments cs) t

-- the same, or what an alias that it names refers to so, where that adds no constraints
pub data LeadsTo (files : List File) : (number : ℕ) → TypeUse → Target → Type 0 where
  at_once : (number : ℕ) (t : TypeUse) (x : Target) → RefersTo files number t x
      → LeadsTo files number t x
  by_alias : (number : ℕ) (t : TypeUse) (of : ℕ) (next : TypeUse) (x : Target)
      → RefersTo files number t (follows of next) → constraints_in next ≡ []
      → LeadsTo files of next x → LeadsTo files number t x

-- What it is behind all aliases.

-- what a type in the file of this number is behind its aliases: itself, or what the type of the
-- alias is that it names
pub data Behind (files : List File) : (number : ℕ) → TypeUse → Core → Type 0 where
  no_alias : (number : ℕ) (t : TypeUse) (of : ℕ) (head : Head)
      → RefersTo files number t (ends of head)
      → Behind files number t
      (record { file = of; head = head; given = given_in number t })
  an_alias : (number : ℕ) (t : TypeUse) (of : ℕ) (next : TypeUse) (c : Core)
      → RefersTo files number t (follows of next) → Behind files of next c
      → Behind files number t (given_also (given_in number t) c)
