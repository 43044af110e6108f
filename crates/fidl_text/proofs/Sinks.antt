-- What an output has taken as a sink, as a writer's bytes.
use Rattle.std.proofs.Common.{ℕ, List}
use Rattle.fidl_streams.specs.Written.{Taken, TakesPart}
use Rattle.fidl_text.specs.Outputs.{AppendsFront}

-- a part is a front
pub front_of_part : (old new : Taken) (bs : List ℕ) → TakesPart old new bs → AppendsFront old.contents new.contents bs
front_of_part old new bs h = (h.front, h.rest, h.whole, h.contents)
