-- When checked files are laid out within the limits (docs/language.md, "Laying out").
use Rattle.std.specs.Prelude.{ℕ, ◌≡◌, ◌≤◌, List, length, map}
use Rattle.fidl_limits.specs.declared.limits.TheConstants.{MAX_ENTRIES}
use Rattle.fidl_tree.specs.declared.file.File.{File}
use Rattle.fidl_wire.specs.Term.{Term, fields_of}
use Rattle.fidl_wire.specs.Figure.{Declarations, IsLaidOut, offsets}
use Rattle.fidl_ir.specs.declared.term.Definition.{Definition}
use Rattle.fidl_ir.specs.Terms.{definitions_view}
use Rattle.fidl_lower_types.specs.Numbers.{all_forms}
use Rattle.fidl_types.specs.Types.{TypesAre}
use Rattle.fidl_type_shape.specs.Limits.{KeepLimits}
use Rattle.fidl_type_shape.specs.declared.finding.Figures.{Figures}
use Rattle.fidl_type_shape.specs.Found.{figures_of, offsets_of, declarations_of}
use Rattle.fidl_reachable_types.specs.Reached.{AreReached}
use Rattle.fidl_layout.specs.Roots.{AreRoots}
use Rattle.fidl_layout.specs.Written.{ValuesFit}
use Rattle.fidl_layout.specs.Uses.{UsesFit}

-- the roots of files reach few enough types
pub record TypesFit (files : List File) (terms : List Term) : Type 0 where
  pub roots : List ℕ
  pub are : AreRoots files roots
  pub types : List Term
  pub reached : AreReached terms roots types
  pub few : length types ≤ MAX_ENTRIES

-- files keep all rules of types, with these definitions; their figures are these, and all limits
-- hold
pub record AreLaidOut (files : List File) (ds : Declarations) : Type 0 where
  pub checked : TypesAre files ds.terms
  pub laid_out : IsLaidOut ds
  pub limits : KeepLimits ds
  pub values : ValuesFit (all_forms files)
  pub uses : UsesFit files ds.figures
  pub types : TypesFit files ds.terms

-- the figures that were found for checked files
pub record AreFigures (files : List File) (found : Figures) : Type 0 where
  pub definitions : List Definition
  pub checked : TypesAre files (definitions_view definitions)
  pub laid_out : IsLaidOut (declarations_of definitions found)
  pub limits : KeepLimits (declarations_of definitions found)
  pub offsets : offsets_of found ≡ map (λ d. offsets (figures_of found) 0 (fields_of d))
      (definitions_view definitions)

-- what is held of files that are laid out
pub record AreHeld (files : List File) (found : Figures) : Type 0 where
  pub figures : AreFigures files found
  pub values : ValuesFit (all_forms files)
  pub uses : UsesFit files (figures_of found)
  pub types : (terms : List Term) → TypesAre files terms → TypesFit files terms
