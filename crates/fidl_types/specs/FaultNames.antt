-- The number, the name and the place of a fault (docs/language.md, "Checking types").
use Rattle.std.specs.Prelude.{ℕ, List, Option, Some, None, codes}
use Rattle.fidl_named.specs.declared.place.Place.{Place}
use Rattle.fidl_types.specs.declared.fault.TypeFault.{TypeFault}
use Rattle.fidl_types.specs.declared.fault.TypeFault.TheVariants.{NotResource, InlineCycle}
use Rattle.fidl_types.specs.declared.fault.TypeFault.TheVariants.{BadOrdinal, DuplicateOrdinal}
use Rattle.fidl_types.specs.declared.fault.TypeFault.TheVariants.{DuplicateValue, NotPowerOfTwo}
use Rattle.fidl_types.specs.declared.fault.TypeFault.TheVariants.{EmptyStrict, OptionalMember}
use Rattle.fidl_types.specs.declared.fault.TypeFault.TheVariants.{BadConstraint, BadBox}
use Rattle.fidl_types.specs.declared.fault.TypeFault.TheVariants.{OutOfProfile, Memory}

abbrev pub number_of : TypeFault → ℕ
number_of (NotResource place) = 1
number_of (InlineCycle place) = 2
number_of (BadOrdinal place) = 3
number_of (DuplicateOrdinal place) = 4
number_of (DuplicateValue place) = 5
number_of (NotPowerOfTwo place) = 6
number_of (EmptyStrict place) = 7
number_of (OptionalMember place) = 8
number_of (BadConstraint place) = 9
number_of (BadBox place) = 10
number_of (OutOfProfile place) = 11
number_of Memory = 12

abbrev pub name_of : TypeFault → List ℕ
name_of (NotResource place) = codes "NotResource"
name_of (InlineCycle place) = codes "InlineCycle"
name_of (BadOrdinal place) = codes "BadOrdinal"
name_of (DuplicateOrdinal place) = codes "DuplicateOrdinal"
name_of (DuplicateValue place) = codes "DuplicateValue"
name_of (NotPowerOfTwo place) = codes "NotPowerOfTwo"
name_of (EmptyStrict place) = codes "EmptyStrict"
name_of (OptionalMember place) = codes "OptionalMember"
name_of (BadConstraint place) = codes "BadConstraint"
name_of (BadBox place) = codes "BadBox"
name_of (OutOfProfile place) = codes "OutOfProfile"
name_of Memory = codes "Memory"

-- where the sources are at fault; nowhere where memory ran out
abbrev pub place_of : TypeFault → Option Place
place_of (NotResource place) = Some place
place_of (InlineCycle place) = Some place
place_of (BadOrdinal place) = Some place
place_of (DuplicateOrdinal place) = Some place
place_of (DuplicateValue place) = Some place
place_of (NotPowerOfTwo place) = Some place
place_of (EmptyStrict place) = Some place
place_of (OptionalMember place) = Some place
place_of (BadConstraint place) = Some place
place_of (BadBox place) = Some place
place_of (OutOfProfile place) = Some place
place_of Memory = None
