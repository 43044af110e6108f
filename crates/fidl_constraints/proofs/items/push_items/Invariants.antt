use Rattle.std.proofs.Common.{◌≡◌, ◌≤◌, ◌++◌, drop}
use Rattle.std.specs.Prelude.{slice_get}
use Rattle.fidl_named.specs.ReferenceViews.{value_list_view}
use Rattle.fidl_constraints.specs.Items.{items_from, items_of}
use Rattle.fidl_constraints.specs.BehindViews.{given_view}
use Rattle.fidl_constraints.specs.ItemViews.{items_view}
use Rattle.fidl_constraints.proofs.items.push_items.Given as goal

-- the constraints so far and those to come are all
abbrev pub invariant-loop-index : goal.invariant-loop-index
invariant-loop-index l = record {
  all : items_view l.found.items ++ items_from (slice_get l.named l.given.file_index) l.given.file_index l.rank (drop l.index (value_list_view l.value-items))
      ≡ items_view l.fn.found.items ++ items_of l.named (given_view l.given);
  low : l.rank ≤ l.index;
}
