use Rattle.std.proofs.Common.{◌≡◌, drop}
use Rattle.fidl_ir.specs.Terms.{fields_view}
use Rattle.fidl_type_shape.specs.Solutions.{are_settled}
use Rattle.fidl_type_shape.proofs.definition_figure.are_settled.Given as goal

-- the members to come decide
abbrev pub invariant-loop-field : goal.invariant-loop-field
invariant-loop-field l = are_settled l.known (fields_view (drop l.field-index l.fields)) ≡ are_settled l.known (fields_view l.fields)
