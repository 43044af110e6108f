-- The terms of types (docs/language.md, "Terms of types").
use Rattle.std.specs.Prelude.{ℕ, ◌≡◌, Bool, true, false, List, Option, Some, None}
use Rattle.fidl_tree.specs.Syntax.{TypeUse, no_arguments, next_argument, Argument, type_argument}
use Rattle.fidl_tree.specs.Syntax.{Layout, struct_layout}
use Rattle.fidl_tree.specs.declared.file.File.{File}
use Rattle.fidl_named.specs.declared.place.DeclarationId.{DeclarationId}
use Rattle.fidl_named.specs.declared.meaning.Predeclared.{Predeclared}
use Rattle.fidl_named.specs.declared.meaning.Predeclared.TheVariants as name
use Rattle.fidl_constraints.specs.Behind.{Head, word_head, layout_head, handle_head, Core}
use Rattle.fidl_constraints.specs.declared.parts.Part.{Part}
use Rattle.fidl_constraints.specs.Parts.{optional_in, bound_in, subtype_in, rights_in}
use Rattle.fidl_constraints.specs.Gives.{InFile, IsGathered}
use Rattle.fidl_wire.specs.Term as ty
use Rattle.fidl_wire.specs.Term.{Kind, Term}
use Rattle.fidl_lower_types.specs.declared.node.Shape.{Shape}
use Rattle.fidl_lower_types.specs.declared.node.Shape.TheVariants as shape
use Rattle.fidl_lower_types.specs.Numbers.{IsNumber}
use Rattle.fidl_lower_types.specs.Counts.{CountIs}

-- What a type is at once.

-- a type that holds no elements, with its term; or a vector or an array, with what it is of in the
-- file of this number
pub data Node : Type 0 where
  leaf : Term → Node
  holds : (number : ℕ) → TypeUse → Shape → Node

-- the term of a vector or an array, by that of its elements
abbrev pub made_of : Shape → Term → Term
made_of (shape.Vector optional bound) e = ty.vector optional bound e
made_of (shape.Array count) e = ty.array e count

-- an end is a handle of a channel, with whatever rights came
abbrev pub end_term : List Part → Term
end_term parts = ty.handle (optional_in parts) 4 2147483648

-- the predeclared types of whole numbers
abbrev pub word_kind : Predeclared → Option Kind
word_kind name.Int8 = Some ty.int8
word_kind name.Int16 = Some ty.int16
word_kind name.Int32 = Some ty.int32
word_kind name.Int64 = Some ty.int64
word_kind name.Uint8 = Some ty.uint8
word_kind name.Uint16 = Some ty.uint16
word_kind name.Uint32 = Some ty.uint32
word_kind name.Uint64 = Some ty.uint64
word_kind name.Byte = Some ty.uint8
word_kind _ = None

-- the terms of the others that take no arguments
abbrev pub other_term : Predeclared → List Part → Option Term
other_term name.Bool parts = Some ty.bool
other_term name.String parts = Some (ty.string (optional_in parts) (bound_in parts))
other_term name.Bytes parts =
    Some (ty.vector (optional_in parts) (bound_in parts) (ty.number ty.uint8))
other_term name.ClientEnd parts = Some (end_term parts)
other_term name.ServerEnd parts = Some (end_term parts)
other_term _ parts = None

abbrev pub number_or : Option Kind → Option Term → Option Term
number_or None other = other
number_or (Some kind) other = Some (ty.number kind)

-- the term of a predeclared type without arguments
abbrev pub word_term : Predeclared → List Part → Option Term
word_term w parts = number_or (word_kind w) (other_term w parts)

abbrev pub is_struct : Layout → Bool
is_struct (struct_layout _ _ _) = true
is_struct _ = false

-- a type in the file of this number is a struct of this number
pub record IsStruct (files : List File) (number : ℕ) (t : TypeUse) (i : ℕ) : Type 0 where
  pub core : Core
  pub parts : List Part
  pub layout : Layout
  pub gathered : IsGathered files number t core parts
  pub is : core.head ≡ layout_head layout
  pub of_struct : is_struct layout ≡ true
  pub number_is : IsNumber files core.file false layout i

-- what a type is at once whose head stands in the file of this number, with what its constraints
-- give
pub data HeadIs (files : List File) (number : ℕ) (parts : List Part) : Head → Node → Type 0 where
  word : (w : Predeclared) (e : Term) → word_term w parts ≡ Some e
      → HeadIs files number parts (word_head w no_arguments) (leaf e)
  handle : (p : DeclarationId) → HeadIs files number parts (handle_head p)
      (leaf (ty.handle (optional_in parts) (subtype_in parts) (rights_in parts)))
  layout : (l : Layout) (i : ℕ) → IsNumber files number (optional_in parts) l i
      → HeadIs files number parts (layout_head l) (leaf (ty.named i))
  box : (t : TypeUse) (i : ℕ) → IsStruct files number t i
      → HeadIs files number parts
      (word_head name.Box (next_argument (type_argument t) no_arguments))
      (leaf (ty.box (ty.named i)))
  vector : (t : TypeUse) → HeadIs files number parts
      (word_head name.Vector (next_argument (type_argument t) no_arguments))
      (holds number t (shape.Vector (optional_in parts) (bound_in parts)))
  array : (t : TypeUse) (a : Argument) (n : ℕ) → InFile files number (λ f. CountIs files f a n)
      → HeadIs files number parts
      (word_head name.Array (next_argument (type_argument t) (next_argument a no_arguments)))
      (holds number t (shape.Array n))

-- what a type in the file of this number is at once, aliases followed
pub record NodeIs (files : List File) (number : ℕ) (t : TypeUse) (n : Node) : Type 0 where
  pub core : Core
  pub parts : List Part
  pub gathered : IsGathered files number t core parts
  pub is : HeadIs files core.file parts core.head n

-- Terms.

-- the term of a type in the file of this number: its own, or that of the vector or the array of its
-- elements' term
pub data TermIs (files : List File) : (number : ℕ) → TypeUse → Term → Type 0 where
  alone : (number : ℕ) (t : TypeUse) (e : Term) → NodeIs files number t (leaf e)
      → TermIs files number t e
  of_elements : (number : ℕ) (t : TypeUse) (of : ℕ) (elements : TypeUse) (s : Shape) (e : Term)
      → NodeIs files number t (holds of elements s) → TermIs files of elements e
      → TermIs files number t (made_of s e)
