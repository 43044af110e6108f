use Rattle.std.proofs.Common.{◌≡◌, ◌++◌, map, drop, take}
use Rattle.std.specs.List.{AllByRecursion}
use Rattle.fidl_wire.specs.Term.{fields_of}
use Rattle.fidl_wire.specs.Figure.{figure_of, offsets}
use Rattle.fidl_ir.specs.Terms.{definitions_view}
use Rattle.fidl_type_shape.specs.Limits.{IsWithin, parts}
use Rattle.fidl_type_shape.specs.Views.{figures_view, lists}
use Rattle.fidl_type_shape.proofs.places.place_all.Given as goal

-- the offsets so far and those to come are all; what stands in the definitions so far is within the limits
abbrev pub invariant-loop-number : goal.invariant-loop-number
invariant-loop-number l = record {
  so_far : lists l.all.items ++ map (λ d. offsets (figures_view l.figures) 0 (fields_of d)) (definitions_view (drop l.number l.definitions)) ≡ map (λ d. offsets (figures_view l.figures) 0 (fields_of d)) (definitions_view l.definitions);
  within : AllByRecursion (λ d. AllByRecursion (λ t. IsWithin (figure_of (figures_view l.figures) t)) (parts d)) (take l.number (definitions_view l.definitions));
}
