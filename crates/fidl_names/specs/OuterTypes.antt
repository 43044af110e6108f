-- The types that a type names outside layouts: itself, and those in its arguments; each with the
-- type whose second argument it is, if any (docs/language.md, "Aliases").
use Rattle.std.specs.Prelude.{List, [], ◌∷◌, ◌++◌, Option, Some, None}
use Rattle.fidl_tree.specs.Syntax.{Path, TypeUse, named_type, layout_type}
use Rattle.fidl_tree.specs.Syntax.{Arguments, no_arguments, next_argument, Argument}
use Rattle.fidl_tree.specs.Syntax.{number_argument, type_argument}

abbrev mutual
  pub outer_of : (argument_of : Option Path) → TypeUse → List (Option Path × Path)
  outer_of of (named_type path arguments constraints) = (of, path) ∷ arguments_outer path arguments
  outer_of of (layout_type attributes layout constraints) = []

  -- those in the arguments of a type of this name
  pub arguments_outer : (head : Path) → Arguments → List (Option Path × Path)
  arguments_outer head no_arguments = []
  arguments_outer head (next_argument a rest) =
      argument_outer None a ++ further_outer (Some head) rest

  -- those in further arguments, of which the first may be the second one of a type
  pub further_outer : (argument_of : Option Path) → Arguments → List (Option Path × Path)
  further_outer of no_arguments = []
  further_outer of (next_argument a rest) = argument_outer of a ++ further_outer None rest

  pub argument_outer : (argument_of : Option Path) → Argument → List (Option Path × Path)
  argument_outer of (number_argument n) = []
  argument_outer of (type_argument t) = outer_of of t

abbrev pub outer_types : TypeUse → List (Option Path × Path)
outer_types t = outer_of None t
