-- Types that are named outside layouts, as references hold them.
use Rattle.std.specs.Prelude.{List, Option, map}
use Rattle.fidl_tree.specs.Syntax.{Path}
use Rattle.fidl_tree.specs.Views.{path_view}
use Rattle.fidl_names.specs.declared.outer_types.OuterType.{OuterType}
use Rattle.fidl_named.specs.ReferenceViews.{optional_path_view}

-- those types, in plain data
abbrev pub read_types : List OuterType → List (Option Path × Path)
read_types types = map (λ t. (optional_path_view t.argument_of, path_view t.path.now)) types
