-- The places of names and values as the code has them.
use Rattle.std.specs.Prelude.{List, map, option_map, option_copied}
use Rattle.fidl_tree.specs.Views.{path_view, constraints_view, kind_view, value_member_view}
use Rattle.fidl_named.specs.declared.places.NamePlace as code
use Rattle.fidl_named.specs.declared.places.NamePlace.TheVariants.{Name, «Type», Layout, Number}
use Rattle.fidl_named.specs.declared.places.NamePlace.TheVariants.{Members}
use Rattle.fidl_named.specs.Places.{NamePlace, a_name, a_type, a_layout, a_number, a_members}

-- a place of the code, with the plain data of what its references lead to
abbrev pub name_place_view : code.NamePlace → NamePlace
name_place_view (Name kind path) = a_name kind (path_view path.now)
name_place_view («Type» argument_of path constraints) =
    a_type (option_map path_view (option_copied argument_of)) (path_view path.now)
    (constraints_view (option_copied constraints))
name_place_view (Layout constraints) = a_layout (constraints_view (option_copied constraints))
name_place_view (Number argument_of number) =
    a_number (option_map path_view (option_copied argument_of)) number
name_place_view (Members keyword underlying members) =
    a_members (kind_view keyword.now) (option_map path_view (option_copied underlying))
    (map value_member_view members.now)

-- the same of each
abbrev pub name_places_view : List code.NamePlace → List NamePlace
name_places_view places = map name_place_view places
