-- The spots of the walk as the code has them.
use Rattle.std.specs.Prelude.{List, map, option_map, option_copied}
use Rattle.fidl_tree.specs.Syntax.{layout_type}
use Rattle.fidl_tree.specs.Views.{path_view, named_view, layout_view, constraints_view, body_view}
use Rattle.fidl_named.specs.declared.spots.Spot as code
use Rattle.fidl_named.specs.declared.spots.Spot.TheVariants.{Named, Written, Number, Layout}
use Rattle.fidl_named.specs.Spots.{Spot, type_spot, number_spot, layout_spot}

-- a spot of the code, with the plain data of what its references lead to
abbrev pub spot_view : code.Spot → Spot
spot_view (Named argument_of named) =
    type_spot (option_map path_view (option_copied argument_of)) (named_view named.now)
spot_view (Written argument_of layout constraints) =
    let l = layout_view layout.now in
    type_spot (option_map path_view (option_copied argument_of))
    (layout_type l.0 l.1 (constraints_view (option_copied constraints)))
spot_view (Number argument_of number) =
    number_spot (option_map path_view (option_copied argument_of)) number
spot_view (Layout body) = layout_spot (body_view body.now)

-- the same of each
abbrev pub spots_view : List code.Spot → List Spot
spots_view spots = map spot_view spots
