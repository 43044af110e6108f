use Rattle.std.proofs.Common.{◌≡◌, take, not}
use Rattle.std.specs.List.{filter}
use Rattle.fidl_tree.specs.Syntax.{Value}
use Rattle.fidl_named.specs.Constraints.{is_optional}
use Rattle.fidl_named.specs.ReferenceViews.{value_list_view}
use Rattle.fidl_named.proofs.constraint_names.ordinary.Given as goal

-- those of the constraints so far that aren't this word
abbrev pub invariant-loop-value : goal.invariant-loop-value
invariant-loop-value l =
    value_list_view l.found.items
    ≡ filter (λ (v : Value). not (is_optional l.file v)) (take l.value-index (value_list_view l.value-items))
