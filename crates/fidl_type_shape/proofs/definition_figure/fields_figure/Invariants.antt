use Rattle.std.proofs.Common.{◌≡◌, ◌≤◌, ◌*◌, drop, max}
use Rattle.fidl_wire.specs.Figure.{end_of, align_of, nest_of}
use Rattle.fidl_limits.specs.declared.limits.TheConstants.{MAX_NEST}
use Rattle.fidl_ir.specs.Terms.{fields_view}
use Rattle.fidl_type_shape.specs.Views.{figures_view}
use Rattle.fidl_type_shape.proofs.definition_figure.fields_figure.Given as goal

-- the members so far and those to come have the end, the alignment and the nest of all
abbrev pub invariant-loop-field : goal.invariant-loop-field
invariant-loop-field l = record {
  ends : end_of (figures_view l.figures) l.end (fields_view (drop l.field-index l.fields)) ≡ end_of (figures_view l.figures) 0 (fields_view l.fields);
  aligns : max l.align (align_of (figures_view l.figures) (fields_view (drop l.field-index l.fields))) ≡ align_of (figures_view l.figures) (fields_view l.fields);
  nests : max l.nest (nest_of (figures_view l.figures) (fields_view (drop l.field-index l.fields))) ≡ nest_of (figures_view l.figures) (fields_view l.fields);
  near : l.end ≤ 65542 * l.field-index;
  aligned : 1 ≤ l.align;
  narrow : l.align ≤ 8;
  shallow : l.nest ≤ MAX_NEST;
}
