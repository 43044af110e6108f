-- Where names, and values, stand in a declaration, and what each place wants (docs/language.md,
-- "Places of names").
use Rattle.std.specs.Prelude.{List, [], ◌∷◌, ◌++◌, Option, Some, None, map, flat_map}
use Rattle.fidl_span.specs.declared.words.Span.{Span}
use Rattle.fidl_tree.specs.Syntax.{Path, Value, bitwise_or, Operands, no_operands, next_operand}
use Rattle.fidl_tree.specs.Syntax.{Operand, number_operand, string_operand, bool_operand}
use Rattle.fidl_tree.specs.Syntax.{path_operand, group_operand}
use Rattle.fidl_tree.specs.Syntax.{ValueMember, ValuesKind, TypeUse, named_type, layout_type}
use Rattle.fidl_tree.specs.Syntax.{Layout, values_layout, struct_layout, table_layout, union_layout}
use Rattle.fidl_tree.specs.Syntax.{Underlying, no_underlying, underlying_type}
use Rattle.fidl_tree.specs.Syntax.{Response, ProtocolMember, compose_member, method_member}
use Rattle.fidl_tree.specs.Syntax.{event_member}
use Rattle.fidl_tree.specs.Syntax.{Body, const_body, alias_body, type_body, protocol_body}
use Rattle.fidl_tree.specs.Syntax.{service_body, resource_body}
use Rattle.fidl_named.specs.declared.meaning.Wanted.{Wanted}
use Rattle.fidl_named.specs.declared.meaning.Wanted.TheVariants as wanted
use Rattle.fidl_named.specs.Spots.{Spot, type_spot, number_spot, layout_spot, type_spots}
use Rattle.fidl_named.specs.Spots.{layout_spots, members_spots}

-- a place, and what it wants: a name of a kind; a type with its constraints, which may be the
-- second argument of another; constraints of a layout; a number as an argument, which may be the
-- second one of a type; the members of bits or an enum, with the name of the underlying type where
-- one is written
pub data NamePlace : Type 0 where
  a_name : (kind : Wanted) (path : Path) → NamePlace
  a_type : (argument_of : Option Path) (path : Path) (constraints : List Value) → NamePlace
  a_layout : (constraints : List Value) → NamePlace
  a_number : (argument_of : Option Path) (number : Span) → NamePlace
  a_members : (kind : ValuesKind) (underlying : Option Path) (members : List ValueMember)
      → NamePlace

abbrev mutual
  -- the paths in a value
  pub value_paths : Value → List Path
  value_paths (bitwise_or t ts) = operand_paths t ++ operands_paths ts

  pub operands_paths : Operands → List Path
  operands_paths no_operands = []
  operands_paths (next_operand t ts) = operand_paths t ++ operands_paths ts

  pub operand_paths : Operand → List Path
  operand_paths (path_operand path) = path ∷ []
  operand_paths (group_operand left v right) = value_paths v
  operand_paths (number_operand minus digits) = []
  operand_paths (string_operand word) = []
  operand_paths (bool_operand b word) = []

abbrev pub value_places : Value → List NamePlace
value_places v = map (a_name wanted.Value) (value_paths v)

-- the name of a type, where it is given by one
abbrev pub use_path : TypeUse → Option Path
use_path (named_type path given constraints) = Some path
use_path (layout_type attributes layout constraints) = None

abbrev pub underlying_path : Underlying → Option Path
underlying_path no_underlying = None
underlying_path (underlying_type t) = use_path t

-- the name of the underlying type of bits or an enum, where one is written
abbrev pub values_path : Layout → Option Path
values_path (values_layout kind strict keyword u members) = underlying_path u
values_path (struct_layout is_resource keyword ms) = None
values_path (table_layout is_resource keyword ms) = None
values_path (union_layout strict is_resource keyword ms) = None

-- the place that a spot of the walk is, if it is one
abbrev pub spot_places : Spot → List NamePlace
spot_places (type_spot of (named_type path given constraints)) = a_type of path constraints ∷ []
spot_places (type_spot of (layout_type attributes layout constraints)) = a_layout constraints ∷ []
spot_places (number_spot of n) = a_number of n ∷ []
spot_places (layout_spot (values_layout kind strict keyword u members)) =
    a_members kind (underlying_path u) members ∷ []
spot_places (layout_spot (struct_layout is_resource keyword ms)) = []
spot_places (layout_spot (table_layout is_resource keyword ms)) = []
spot_places (layout_spot (union_layout strict is_resource keyword ms)) = []

abbrev pub places_of : List Spot → List NamePlace
places_of spots = flat_map spot_places spots

abbrev pub perhaps : Option TypeUse → List NamePlace
perhaps None = []
perhaps (Some t) = places_of (type_spots None t)

abbrev pub response_places : Option Response → List NamePlace
response_places None = []
response_places (Some r) = perhaps r.payload ++ perhaps r.error

abbrev pub protocol_places : ProtocolMember → List NamePlace
protocol_places (compose_member attributes path) = a_name wanted.Protocol path ∷ []
protocol_places (method_member attributes strict name request response) =
    perhaps request ++ response_places response
protocol_places (event_member attributes strict name payload) = perhaps payload

-- the places in a declaration
abbrev pub body_places : Body → List NamePlace
body_places (const_body t v) = places_of (type_spots None t) ++ value_places v
body_places (alias_body t) = places_of (type_spots None t)
body_places (type_body attributes layout) = places_of (layout_spots layout)
body_places (protocol_body openness members) = flat_map protocol_places members
body_places (service_body ms) = places_of (members_spots ms)
body_places (resource_body t properties) =
    places_of (type_spots None t) ++ places_of (members_spots properties)
