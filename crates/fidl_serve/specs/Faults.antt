-- The numbers and names of the faults of a service (docs/service.md, "Output and ends").
use Rattle.std.specs.Prelude.{ℕ, List, codes}
use Rattle.fidl_serve.specs.declared.fault.ServeFault.{ServeFault}
use Rattle.fidl_serve.specs.declared.fault.ServeFault.TheVariants.{Read, Write, Memory, NeverEnds}

-- the fault's number
abbrev pub number_of : ServeFault → ℕ
number_of Read = 1
number_of (Write frames) = 2
number_of Memory = 3
number_of NeverEnds = 4

-- the fault's name, as its variant is spelled
abbrev pub name_of : ServeFault → List ℕ
name_of Read = codes "Read"
name_of (Write frames) = codes "Write"
name_of Memory = codes "Memory"
name_of NeverEnds = codes "NeverEnds"
