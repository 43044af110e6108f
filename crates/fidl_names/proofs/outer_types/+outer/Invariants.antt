use Rattle.std.proofs.Common.{◌≡◌, ◌++◌, Some, map, drop}
use Rattle.fidl_tree.specs.Syntax.{arguments_of}
use Rattle.fidl_tree.specs.Views.{path_view, next_argument_view}
use Rattle.fidl_names.specs.OuterTypes.{further_outer}
use Rattle.fidl_named.specs.ReferenceViews.{optional_path_view}
use Rattle.fidl_names.specs.OuterViews.{read_types}
use Rattle.fidl_names.proofs.outer_types.+outer.Given as goal

-- the types so far and those of the arguments to come are all
abbrev pub invariant-push_arguments-loop-next : goal.invariant-push_arguments-loop-next
invariant-push_arguments-loop-next l =
    read_types l.types.items
    ++ further_outer (optional_path_view l.argument_of) (arguments_of (map next_argument_view (drop l.next-index l.arguments)))
    ≡ read_types l.fn.types.items
    ++ further_outer (Some (path_view l.head)) (arguments_of (map next_argument_view l.arguments))
