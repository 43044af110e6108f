-- The number, the name and the place of a fault (docs/language.md, "Faults of constants").
use Rattle.std.specs.Prelude.{ℕ, List, Option, Some, None, codes}
use Rattle.fidl_named.specs.declared.place.Place.{Place}
use Rattle.fidl_consts.specs.declared.fault.ConstFault.{ConstFault}
use Rattle.fidl_consts.specs.declared.fault.ConstFault.TheVariants.{OutOfRange, WrongKind}
use Rattle.fidl_consts.specs.declared.fault.ConstFault.TheVariants.{ConstCycle, NotBits, Memory}

abbrev pub number_of : ConstFault → ℕ
number_of (OutOfRange place) = 1
number_of (WrongKind place) = 2
number_of (ConstCycle place) = 3
number_of (NotBits place) = 4
number_of Memory = 5

abbrev pub name_of : ConstFault → List ℕ
name_of (OutOfRange place) = codes "OutOfRange"
name_of (WrongKind place) = codes "WrongKind"
name_of (ConstCycle place) = codes "ConstCycle"
name_of (NotBits place) = codes "NotBits"
name_of Memory = codes "Memory"

-- where the sources are at fault; nowhere where memory ran out
abbrev pub place_of : ConstFault → Option Place
place_of (OutOfRange place) = Some place
place_of (WrongKind place) = Some place
place_of (ConstCycle place) = Some place
place_of (NotBits place) = Some place
place_of Memory = None
