-- Types by the names that they are written with, and what stands in a box (docs/language.md, "Uses
-- of types").
use Rattle.std.specs.Prelude.{ℕ, ◌≡◌, Bool, true, false, List, Some}
use Rattle.fidl_tree.specs.Syntax.{Path, TypeUse, named_type, layout_type}
use Rattle.fidl_tree.specs.Syntax.{Arguments, no_arguments, next_argument, type_argument, Layout}
use Rattle.fidl_tree.specs.declared.file.File.{File}
use Rattle.fidl_named.specs.declared.meaning.Predeclared.{Predeclared}
use Rattle.fidl_named.specs.declared.meaning.Predeclared.TheVariants as name
use Rattle.fidl_named.specs.declared.meaning.Meaning.TheVariants as meaning
use Rattle.fidl_named.specs.Places.{use_path}
use Rattle.fidl_constraints.specs.Behind.{MeansType, Core, layout_head}
use Rattle.fidl_constraints.specs.declared.parts.Part.{Part}
use Rattle.fidl_constraints.specs.Gives.{IsGathered}
use Rattle.fidl_lower_types.specs.Terms.{is_struct}

-- a type is given by the name of this predeclared one, in the file of this number
pub record IsWord (files : List File) (number : ℕ) (t : TypeUse) (w : Predeclared) : Type 0 where
  pub path : Path
  pub named : use_path t ≡ Some path
  pub means : MeansType files number path (meaning.Predeclared w)

-- the predeclared types that the profile leaves out
abbrev pub is_float : Predeclared → Bool
is_float name.Float32 = true
is_float name.Float64 = true
is_float _ = false

-- a type is given by the name of such a one
pub record IsLeftOut (files : List File) (number : ℕ) (t : TypeUse) : Type 0 where
  pub word : Predeclared
  pub is : IsWord files number t word
  pub float : is_float word ≡ true

-- Arguments.

-- the arguments that a type is written with
abbrev pub arguments_in : TypeUse → Arguments
arguments_in (named_type path given constraints) = given
arguments_in (layout_type attributes l constraints) = no_arguments

-- arguments stand behind predeclared names alone
pub data ArgumentsSuit (files : List File) (number : ℕ) (t : TypeUse) : Type 0 where
  no_argument : arguments_in t ≡ no_arguments → ArgumentsSuit files number t
  of_word : (w : Predeclared) → IsWord files number t w → ArgumentsSuit files number t

-- Boxes.

-- a type in the file of this number is a struct, aliases followed
pub record ComesToStruct (files : List File) (number : ℕ) (t : TypeUse) : Type 0 where
  pub core : Core
  pub parts : List Part
  pub layout : Layout
  pub gathered : IsGathered files number t core parts
  pub is : core.head ≡ layout_head layout
  pub of_struct : is_struct layout ≡ true

-- a type is written as a box of just this one
pub record IsBoxOf (files : List File) (number : ℕ) (t content : TypeUse) : Type 0 where
  pub is : IsWord files number t name.Box
  pub only : arguments_in t ≡ next_argument (type_argument content) no_arguments

-- as a box of this one, which is no struct
pub record BoxesOther (files : List File) (number : ℕ) (t content : TypeUse) : Type 0 where
  pub box : IsBoxOf files number t content
  pub other : ComesToStruct files number content → ⊥
