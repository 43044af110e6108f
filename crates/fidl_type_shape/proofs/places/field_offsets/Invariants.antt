use Rattle.std.proofs.Common.{◌≡◌, ◌≤◌, ◌*◌, ◌++◌, drop}
use Rattle.fidl_wire.specs.Figure.{offsets, end_of}
use Rattle.fidl_ir.specs.Terms.{fields_view}
use Rattle.fidl_type_shape.specs.Views.{figures_view}
use Rattle.fidl_type_shape.proofs.places.field_offsets.Given as goal

-- the offsets so far and those to come are all
abbrev pub invariant-loop-field : goal.invariant-loop-field
invariant-loop-field l = record {
  so_far : l.found.items ++ offsets (figures_view l.figures) l.end (fields_view (drop l.field-index l.fields)) ≡ offsets (figures_view l.figures) 0 (fields_view l.fields);
  ends : end_of (figures_view l.figures) l.end (fields_view (drop l.field-index l.fields)) ≡ end_of (figures_view l.figures) 0 (fields_view l.fields);
  near : l.end ≤ 65542 * l.field-index;
}
