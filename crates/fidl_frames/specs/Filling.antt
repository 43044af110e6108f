-- How a filling of a buffer stops.
use Rattle.std.specs.Prelude.{Bool, true, false}
use Rattle.fidl_frames.specs.declared.filling.Filling.{Filling}
use Rattle.fidl_frames.specs.declared.filling.Filling.TheVariants.{Full, End, Failure, NoReads}

-- whether it stopped by a failure of the reader
abbrev pub is_failure : Filling → Bool
is_failure Full = false
is_failure End = false
is_failure Failure = true
is_failure NoReads = false
