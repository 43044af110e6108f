use Rattle.std.proofs.Common.{◌≡◌, ◌<◌, ℕ, List, Some, length, get_or, ap, arith}
use Rattle.std.specs.Prelude.{slice_get}
use Rattle.std.proofs.lemmas.List.Elements.{Contains-get_or}
use Rattle.std.proofs.lemmas.Option.{slice_get_within}
use Rattle.fidl_tree.specs.Syntax.{TypeUse}
use Rattle.fidl_tree.specs.Views.{file_view}
use Rattle.fidl_tree.specs.declared.file.File.{File}
use Rattle.fidl_declarations.specs.Sites.{file_sites}
use Rattle.fidl_wire.specs.Figure.{Figure}
use Rattle.fidl_type_shape.specs.Found.{figures_of}
use Rattle.fidl_type_shape.proofs.Lists.{all_of}
use Rattle.fidl_types.proofs.Made.{all_among}
use Rattle.fidl_layout.specs.Uses.{IsWritten, SiteFits, UsesFit}
use Rattle.fidl_layout.specs.Shallow.{UseFitsAtFirst, SiteFitsAtFirst, FileFitsAtFirst, UsesFitAtFirst}
use Rattle.fidl_layout.proofs.FirstVectors.{use_fits}
use Rattle.fidl_layout.proofs.uses.check_uses.Goals as goal

-- what is written fits, where all that is written does down to its first vectors
all_fit : (files : List File) (figures : List Figure) → UsesFitAtFirst files figures → UsesFit files figures
all_fit files figures each number f at =
    let sites = file_sites (file_view f) in
    all_of (SiteFits files figures number) sites (λ i d lt t is.
    use_fits files figures written number t (record { site = get_or sites i d; at = record { f = f; file_at = at; among = Contains-get_or sites i d lt }; is = is }))
  where
    written : (n : ℕ) (t : TypeUse) → IsWritten files n t → UseFitsAtFirst files figures n t
    written n t w = all_among (SiteFitsAtFirst files figures n) (file_sites (file_view w.at.f)) w.site (each n w.at.f w.at.file_at) w.at.among t w.is

pub returns-clause-ok : goal.returns-clause-ok
returns-clause-ok c =
    all_fit c.args.types.now (figures_of c.args.figures.now)
    (λ n f at. let lt = slice_get_within c.args.types.now n f at in c.loop-file_index.invariant n f (omega (arith, lt, c.loop-file_index-test.false, c.count-file_index-end.ensures, ap length c.sources-sources.ensures.files)) at)
