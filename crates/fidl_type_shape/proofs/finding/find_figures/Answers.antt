use Rattle.std.proofs.Common.{List, subst}
use Rattle.std.specs.List.{AllByRecursion}
use Rattle.fidl_wire.specs.Figure.{figure_of}
use Rattle.fidl_ir.specs.Terms.{definitions_view}
use Rattle.fidl_type_shape.specs.declared.figure.Figure.{Figure}
use Rattle.fidl_type_shape.specs.Limits.{IsWithin, parts}
use Rattle.fidl_type_shape.specs.Views.{figures_view}
use Rattle.fidl_type_shape.proofs.Laid.{laid_out, all_few}
use Rattle.fidl_type_shape.proofs.finding.find_figures.Goals as goal

pub returns-clause-laid_out : goal.returns-clause-laid_out
returns-clause-laid_out c = laid_out c.args.definitions.now c.in_ok-figures.figures.items c.in_ok-figures.ensures.found c.in_ok-figures.ensures.long

pub returns-clause-limits : goal.returns-clause-limits
returns-clause-limits c = record {
  figures = subst (λ (fs : List Figure). AllByRecursion (λ d. AllByRecursion (λ t. IsWithin (figure_of (figures_view fs) t)) (parts d)) (definitions_view c.args.definitions.now)) c.deref.ensures.value c.in_ok-offsets.ensures.within;
  members = all_few c.args.definitions.now c.in_ok-figures.figures.items c.in_ok-figures.ensures.found;
}
