-- What the figures that were found stand for.
use Rattle.std.specs.Prelude.{ℕ, List}
use Rattle.fidl_wire.specs.Figure.{Figure, Declarations}
use Rattle.fidl_ir.specs.declared.term.Definition.{Definition}
use Rattle.fidl_ir.specs.Terms.{definitions_view}
use Rattle.fidl_type_shape.specs.declared.finding.Figures.{Figures}
use Rattle.fidl_type_shape.specs.Views.{figures_view, lists}

-- the figures, by the numbers of the definitions
abbrev pub figures_of : Figures → List Figure
figures_of found = figures_view found.figures.items

-- the offsets of the members of each definition
abbrev pub offsets_of : Figures → List (List ℕ)
offsets_of found = lists found.offsets.items

-- definitions with the figures that were found
abbrev pub declarations_of : List Definition → Figures → Declarations
declarations_of definitions found =
    record { terms = definitions_view definitions; figures = figures_of found }
