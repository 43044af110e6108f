use Rattle.std.proofs.Common.{take}
use Rattle.std.specs.List.{AllByRecursion}
use Rattle.fidl_wire.specs.Figure.{figure_of}
use Rattle.fidl_ir.specs.Terms.{rows_view}
use Rattle.fidl_type_shape.specs.Limits.{IsWithin, parts_of_rows}
use Rattle.fidl_type_shape.specs.Views.{figures_view}
use Rattle.fidl_type_shape.proofs.places.check_rows.Given as goal

-- what stands in the members so far is within the limits
abbrev pub invariant-loop-row : goal.invariant-loop-row
invariant-loop-row l = AllByRecursion (λ t. IsWithin (figure_of (figures_view l.figures) t)) (parts_of_rows (rows_view (take l.row-index l.rows)))
