-- The endings of a service (docs/service.md, "Answers").
use Rattle.std.specs.Prelude.{ℕ, List, codes}
use Rattle.fidl_requests.specs.declared.ended.Ended.{Ended}
use Rattle.fidl_requests.specs.declared.ended.Ended.TheVariants.{EndOfInput, StrictUnknown}
use Rattle.fidl_requests.specs.declared.ended.Ended.TheVariants.{BadMessage, BadFrame}

-- the ending's number
abbrev pub number_of : Ended → ℕ
number_of EndOfInput = 1
number_of StrictUnknown = 2
number_of BadMessage = 3
number_of BadFrame = 4

-- the ending's name, as its variant is spelled
abbrev pub name_of : Ended → List ℕ
name_of EndOfInput = codes "EndOfInput"
name_of StrictUnknown = codes "StrictUnknown"
name_of BadMessage = codes "BadMessage"
name_of BadFrame = codes "BadFrame"
