-- The number, the name and the place of a fault, and what each says of the sources
-- (docs/language.md, "Faults of names").
use Rattle.std.specs.Prelude.{ℕ, List, Option, Some, None, codes}
use Rattle.fidl_named.specs.declared.place.Place.{Place}
use Rattle.fidl_named.specs.declared.fault.NameFault.{NameFault}
use Rattle.fidl_named.specs.declared.fault.NameFault.TheVariants.{DuplicateName, UnknownLibrary}
use Rattle.fidl_named.specs.declared.fault.NameFault.TheVariants.{UnknownName, AmbiguousName}
use Rattle.fidl_named.specs.declared.fault.NameFault.TheVariants.{AliasCycle, ImportCycle}
use Rattle.fidl_named.specs.declared.fault.NameFault.TheVariants.{BadImport, Memory}

abbrev pub number_of : NameFault → ℕ
number_of (DuplicateName place) = 1
number_of (UnknownLibrary place) = 2
number_of (UnknownName place) = 3
number_of (AmbiguousName place) = 4
number_of (AliasCycle place) = 5
number_of (ImportCycle place) = 6
number_of (BadImport place) = 7
number_of Memory = 8

abbrev pub name_of : NameFault → List ℕ
name_of (DuplicateName place) = codes "DuplicateName"
name_of (UnknownLibrary place) = codes "UnknownLibrary"
name_of (UnknownName place) = codes "UnknownName"
name_of (AmbiguousName place) = codes "AmbiguousName"
name_of (AliasCycle place) = codes "AliasCycle"
name_of (ImportCycle place) = codes "ImportCycle"
name_of (BadImport place) = codes "BadImport"
name_of Memory = codes "Memory"

-- where the sources are at fault; nowhere where memory ran out
abbrev pub place_of : NameFault → Option Place
place_of (DuplicateName place) = Some place
place_of (UnknownLibrary place) = Some place
place_of (UnknownName place) = Some place
place_of (AmbiguousName place) = Some place
place_of (AliasCycle place) = Some place
place_of (ImportCycle place) = Some place
place_of (BadImport place) = Some place
place_of Memory = None
