-- What a type is made of at once (docs/language.md, "Uses of types").
use Rattle.std.specs.Prelude.{ℕ, ◌≡◌, List, Option, Some, None}
use Rattle.fidl_tree.specs.Syntax.{TypeUse, Arguments, next_argument, type_argument}
use Rattle.fidl_tree.specs.declared.file.File.{File}
use Rattle.fidl_constraints.specs.Behind.{follows, RefersTo}
use Rattle.fidl_wire.specs.Term.{Term}
use Rattle.fidl_lower_types.specs.Terms.{TermIs}
use Rattle.fidl_type_rules.specs.Words.{arguments_in}

-- the first of some arguments, where it is a type
abbrev pub first_type : Arguments → Option TypeUse
first_type (next_argument (type_argument t) rest) = Some t
first_type _ = None

-- a type in the file of this number is made of another in the file of that: of the type of the
-- alias that it names, and of its first argument
pub data IsMadeOf (files : List File) (number : ℕ) (t : TypeUse) : (of : ℕ) → TypeUse → Type 0 where
  of_alias : (of : ℕ) (u : TypeUse) → RefersTo files number t (follows of u)
      → IsMadeOf files number t of u
  of_argument : (u : TypeUse) → first_type (arguments_in t) ≡ Some u
      → IsMadeOf files number t number u

-- a type in the file of this number has a term
abbrev pub HasTerm : List File → (number : ℕ) → TypeUse → Type 0
HasTerm files number t = (e : Term) × TermIs files number t e

-- all that it is made of has
abbrev pub IsOfTerms : List File → (number : ℕ) → TypeUse → Type 0
IsOfTerms files number t =
    (of : ℕ) (u : TypeUse) → IsMadeOf files number t of u → HasTerm files of u
