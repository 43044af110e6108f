use Rattle.std.proofs.Common.{take}
use Rattle.std.specs.List.{AllByRecursion}
use Rattle.fidl_wire.specs.Figure.{figure_of}
use Rattle.fidl_ir.specs.Terms.{fields_view}
use Rattle.fidl_type_shape.specs.Limits.{IsWithin, parts_of_fields}
use Rattle.fidl_type_shape.specs.Views.{figures_view}
use Rattle.fidl_type_shape.proofs.places.check_fields.Given as goal

-- what stands in the members so far is within the limits
abbrev pub invariant-loop-field : goal.invariant-loop-field
invariant-loop-field l = AllByRecursion (λ t. IsWithin (figure_of (figures_view l.figures) t)) (parts_of_fields (fields_view (take l.field-index l.fields)))
