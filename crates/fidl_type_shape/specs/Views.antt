-- What the code's figures stand for.
use Rattle.std.specs.Prelude.{ℕ, List, map}
use Rattle.std.specs.Global.{Vec}
use Rattle.fidl_wire.specs.Figure.{figure}
use Rattle.fidl_wire.specs.Figure as wire
use Rattle.fidl_type_shape.specs.declared.figure.Figure.{Figure}

-- a figure
abbrev pub figure_view : Figure → wire.Figure
figure_view f = figure f.size f.align f.nest

-- figures, in order
abbrev pub figures_view : List Figure → List wire.Figure
figures_view = map figure_view

-- lists of numbers, in order
abbrev pub lists : List (Vec ℕ) → List (List ℕ)
lists = map (λ v. v.items)
