-- Types behind their aliases as the code has them.
use Rattle.std.specs.Prelude.{List, Option, Some, None, flat_map, option_copied}
use Rattle.fidl_tree.specs.Syntax.{TypeUse, layout_type, Arguments, no_arguments}
use Rattle.fidl_tree.specs.Views.{named_view, layout_view, body_view, constraints_view}
use Rattle.fidl_tree.specs.Views.{type_arguments_view}
use Rattle.fidl_tree.specs.declared.type_constructor.TypeArguments.{TypeArguments}
use Rattle.fidl_constraints.specs.declared.type_use.TypeUse as code
use Rattle.fidl_constraints.specs.declared.type_use.TypeUse.TheVariants as written
use Rattle.fidl_constraints.specs.declared.heads.Head.{Head as CodeHead}
use Rattle.fidl_constraints.specs.declared.heads.Head.TheVariants as head
use Rattle.fidl_constraints.specs.declared.heads.Given.{Given as CodeGiven}
use Rattle.fidl_constraints.specs.declared.heads.Core.{Core as CodeCore}
use Rattle.fidl_constraints.specs.declared.targets.Target.{Target as CodeTarget}
use Rattle.fidl_constraints.specs.declared.targets.Target.TheVariants as target
use Rattle.fidl_constraints.specs.Behind.{Head, word_head, layout_head, handle_head, Given, Core}
use Rattle.fidl_constraints.specs.Behind.{list_of, Target, ends, follows}

abbrev pub use_view : code.TypeUse → TypeUse
use_view (written.Named n) = named_view n.now
use_view (written.Written layout constraints) =
    let l = layout_view layout.now in
    layout_type l.0 l.1 (constraints_view (option_copied constraints))

-- the arguments of a type, where some are written
abbrev pub arguments_view : Option TypeArguments → Arguments
arguments_view None = no_arguments
arguments_view (Some a) = type_arguments_view a

abbrev pub head_view : CodeHead → Head
head_view (head.Word name arguments) = word_head name (arguments_view (option_copied arguments))
head_view (head.Layout body) = layout_head (body_view body.now)
head_view (head.Handle id) = handle_head id

abbrev pub given_view : CodeGiven → Given
given_view g =
    record { file = g.file_index; values = constraints_view (option_copied g.constraints) }

-- the lists in which constraints are written
abbrev pub lists_view : List CodeGiven → List Given
lists_view gs = flat_map (λ g. list_of g.file_index (constraints_view (option_copied g.constraints))) gs

abbrev pub core_view : CodeCore → Core
core_view c = record {
  file = c.file_index;
  head = head_view c.head;
  given = lists_view c.given.items;
}

abbrev pub target_view : CodeTarget → Target
target_view (target.Ends number of) = ends number (head_view of)
target_view (target.Follows number next) = follows number (use_view next)
