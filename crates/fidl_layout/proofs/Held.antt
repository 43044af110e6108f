-- Files of which the figures are held are laid out.
use Rattle.std.proofs.Common.{List}
use Rattle.fidl_tree.specs.declared.file.File.{File}
use Rattle.fidl_wire.specs.Figure.{Declarations}
use Rattle.fidl_ir.specs.Terms.{definitions_view}
use Rattle.fidl_type_shape.specs.declared.finding.Figures.{Figures}
use Rattle.fidl_type_shape.specs.Found.{declarations_of}
use Rattle.fidl_layout.specs.Laid.{AreLaidOut, AreHeld}

pub held_laid : (files : List File) (found : Figures) → AreHeld files found → (ds : Declarations) × AreLaidOut files ds
held_laid files found held =
    let figures = held.figures in (
      declarations_of figures.definitions found,
      record {
        checked = figures.checked;
        laid_out = figures.laid_out;
        limits = figures.limits;
        values = held.values;
        uses = held.uses;
        types = held.types (definitions_view figures.definitions) figures.checked;
      },
    )
