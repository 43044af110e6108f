-- One walk: the types, the numbers in arguments and the layouts of a declaration, in order, inner
-- layouts before outer ones (docs/language.md, "Places of names").
use Rattle.std.specs.Prelude.{List, [], ◌∷◌, ◌++◌, Option, Some, None}
use Rattle.fidl_span.specs.declared.words.Span.{Span}
use Rattle.fidl_tree.specs.Syntax.{Path, TypeUse, named_type, layout_type}
use Rattle.fidl_tree.specs.Syntax.{Arguments, no_arguments, next_argument, Argument}
use Rattle.fidl_tree.specs.Syntax.{number_argument, type_argument}
use Rattle.fidl_tree.specs.Syntax.{Layout, values_layout, struct_layout, table_layout, union_layout}
use Rattle.fidl_tree.specs.Syntax.{Underlying, no_underlying, underlying_type}
use Rattle.fidl_tree.specs.Syntax.{Members, no_members, next_member}
use Rattle.fidl_tree.specs.Syntax.{Member, named_member, ordinal_member, reserved_member}

-- a type or a number, which may be the second argument of a type; a layout
pub data Spot : Type 0 where
  type_spot : (argument_of : Option Path) → TypeUse → Spot
  number_spot : (argument_of : Option Path) → Span → Spot
  layout_spot : Layout → Spot

abbrev mutual
  -- a named type and the spots in its arguments; the spots in a layout, and then the type that it
  -- is written as
  pub type_spots : (argument_of : Option Path) → TypeUse → List Spot
  type_spots of (named_type path arguments constraints) =
      type_spot of (named_type path arguments constraints) ∷ arguments_spots path arguments
  type_spots of (layout_type attributes layout constraints) =
      layout_spots layout ++ type_spot of (layout_type attributes layout constraints) ∷ []

  -- those in the arguments of a type of this name
  pub arguments_spots : (head : Path) → Arguments → List Spot
  arguments_spots head no_arguments = []
  arguments_spots head (next_argument a rest) =
      argument_spots None a ++ further_spots (Some head) rest

  -- those in further arguments, of which the first may be the second one of a type
  pub further_spots : (argument_of : Option Path) → Arguments → List Spot
  further_spots of no_arguments = []
  further_spots of (next_argument a rest) = argument_spots of a ++ further_spots None rest

  pub argument_spots : (argument_of : Option Path) → Argument → List Spot
  argument_spots of (number_argument n) = number_spot of n ∷ []
  argument_spots of (type_argument t) = type_spots of t

  pub layout_spots : Layout → List Spot
  layout_spots (values_layout kind strict keyword u members) =
      underlying_spots u ++ layout_spot (values_layout kind strict keyword u members) ∷ []
  layout_spots (struct_layout is_resource keyword ms) =
      members_spots ms ++ layout_spot (struct_layout is_resource keyword ms) ∷ []
  layout_spots (table_layout is_resource keyword ms) =
      members_spots ms ++ layout_spot (table_layout is_resource keyword ms) ∷ []
  layout_spots (union_layout strict is_resource keyword ms) =
      members_spots ms ++ layout_spot (union_layout strict is_resource keyword ms) ∷ []

  pub underlying_spots : Underlying → List Spot
  underlying_spots no_underlying = []
  underlying_spots (underlying_type t) = type_spots None t

  pub members_spots : Members → List Spot
  members_spots no_members = []
  members_spots (next_member m ms) = member_spots m ++ members_spots ms

  pub member_spots : Member → List Spot
  member_spots (named_member attributes name t) = type_spots None t
  member_spots (ordinal_member attributes ordinal name t) = type_spots None t
  member_spots (reserved_member attributes ordinal) = []
