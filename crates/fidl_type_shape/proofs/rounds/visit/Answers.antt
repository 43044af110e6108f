use Rattle.std.proofs.Common.{rules, ◌∙◌, ap, refl, true, false}
use Rattle.std.proofs.lemmas.List.{map-set, get_or_default}
use Rattle.std.proofs.Math.ListN.{set}
use Rattle.fidl_wire.specs.Figure as wire
use Rattle.fidl_type_shape.specs.Views.{figure_view, figures_view}
use Rattle.fidl_type_shape.specs.Progress.{found}
use Rattle.fidl_type_shape.proofs.rounds.visit.Goals as goal

pub returns-clause-ok : goal.returns-clause-ok
returns-clause-ok c =
    let figures = c.args.figures.now in
    let i = c.args.number in
    let f = c.in_ok-figures.field-0 in
    let same = map-set figure_view figures i f ∙ ap (λ (g : wire.Figure). set (figures_view figures) i g) c.in_ok-figures.ensures.ok in
    found (get_or_default c.args.known.now c.args.number true false c.requires.mark ∙ c.if-known-number.false) (search (rules, c.is_ready.ensures, c.if-not-is_ready.false)) c.in_ok-figures.ensures.few same refl
