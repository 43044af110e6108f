-- The number, the name and the place of a fault (docs/language.md, "Laying out").
use Rattle.std.specs.Prelude.{ℕ, List, Option, Some, None, codes}
use Rattle.fidl_named.specs.declared.place.Place.{Place}
use Rattle.fidl_layout.specs.declared.fault.LayoutFault.{LayoutFault}
use Rattle.fidl_layout.specs.declared.fault.LayoutFault.TheVariants.{TooNested, TooLarge}
use Rattle.fidl_layout.specs.declared.fault.LayoutFault.TheVariants.{TooManyTypes, TooManyMembers}
use Rattle.fidl_layout.specs.declared.fault.LayoutFault.TheVariants.{Memory}

abbrev pub number_of : LayoutFault → ℕ
number_of (TooNested place) = 1
number_of (TooLarge place) = 2
number_of (TooManyTypes place) = 3
number_of (TooManyMembers place) = 4
number_of Memory = 5

abbrev pub name_of : LayoutFault → List ℕ
name_of (TooNested place) = codes "TooNested"
name_of (TooLarge place) = codes "TooLarge"
name_of (TooManyTypes place) = codes "TooManyTypes"
name_of (TooManyMembers place) = codes "TooManyMembers"
name_of Memory = codes "Memory"

-- where the sources are at fault; nowhere where memory ran out
abbrev pub place_of : LayoutFault → Option Place
place_of (TooNested place) = Some place
place_of (TooLarge place) = Some place
place_of (TooManyTypes place) = Some place
place_of (TooManyMembers place) = Some place
place_of Memory = None
