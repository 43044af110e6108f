use Rattle.std.proofs.Common.{rules, ◌≡◌, length, false, arith}
use Rattle.std.specs.Prelude.{replicate}
use Rattle.std.proofs.Math.ListN.{length-map}
use Rattle.fidl_type_shape.specs.Views.{figure_view, figures_view}
use Rattle.fidl_type_shape.proofs.Laid.{none_known}
use Rattle.fidl_type_shape.proofs.finding.all_figures.Goals as goal

pub settle-requires-clause-found : goal.settle-requires-clause-found
settle-requires-clause-found c =
    let ds = c.args.definitions.now in
    let figures = c.deref_mut.result.now in
    let long : length (figures_view figures) ≡ length ds = omega (arith, length-map figures figure_view, c.deref_mut.ensures.len, c.in_ok-figures.ensures) in
    let blank : c.deref_mut-2.result.now ≡ replicate (length ds) false = search rules in
    none_known ds (figures_view figures) c.deref_mut-2.result.now long blank
