-- A part whose reading stops with Memory.
use Rattle.std.proofs.Common.{◌≡◌, Result, Ok, Err, IsErr, IsErrAnd, ◌∙◌}
use Rattle.fidl_parse.specs.declared.fault.Stop.{Stop}
use Rattle.fidl_parse.specs.declared.fault.Stop.TheVariants.{Memory}
use Rattle.fidl_parse.specs.Completeness.{Goes}

pub stops : {R : Type 0} (r : Result R Stop) (e : Stop) (Same : Stop → Type 0) (P : Type 0) → IsErr r × IsErrAnd r Same → ((x : Stop) → Same x → x ≡ e) → e ≡ Memory → Goes r P
stops (Ok y) e Same P k same h = let f = k.0 in cc
stops (Err x) e Same P k same h = same x k.1 ∙ h
