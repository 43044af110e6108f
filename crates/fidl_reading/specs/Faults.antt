-- The numbers, names and places of the faults (docs/notation.md, "Faults").
use Rattle.std.specs.Prelude.{ℕ, List, codes, Option, Some, None}
use Rattle.fidl_reading.specs.declared.fault.NotationFault.{NotationFault}
use Rattle.fidl_reading.specs.declared.fault.NotationFault.TheVariants.{Syntax, UnknownName}
use Rattle.fidl_reading.specs.declared.fault.NotationFault.TheVariants.{OutOfRange, Repeated, Memory}

-- the fault's number
abbrev pub number_of : NotationFault → ℕ
number_of (Syntax at) = 1
number_of (UnknownName at) = 2
number_of (OutOfRange at) = 3
number_of (Repeated at) = 4
number_of Memory = 5

-- the fault's name
abbrev pub name_of : NotationFault → List ℕ
name_of (Syntax at) = codes "Syntax"
name_of (UnknownName at) = codes "UnknownName"
name_of (OutOfRange at) = codes "OutOfRange"
name_of (Repeated at) = codes "Repeated"
name_of Memory = codes "Memory"

-- the offset in the text that the fault reports
abbrev pub place_of : NotationFault → Option ℕ
place_of (Syntax at) = Some at
place_of (UnknownName at) = Some at
place_of (OutOfRange at) = Some at
place_of (Repeated at) = Some at
place_of Memory = None
