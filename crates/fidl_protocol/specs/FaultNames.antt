-- The numbers, names and places of faults (docs/language.md, "Checked protocols").
use Rattle.std.specs.Prelude.{ℕ, List, Option, Some, None, codes}
use Rattle.fidl_named.specs.declared.place.Place.{Place}
use Rattle.fidl_protocol.specs.declared.fault.ProtocolFault.{ProtocolFault}
use Rattle.fidl_protocol.specs.declared.fault.ProtocolFault.TheVariants.{NotStrict, BadCompose}
use Rattle.fidl_protocol.specs.declared.fault.ProtocolFault.TheVariants.{DuplicateMethod}
use Rattle.fidl_protocol.specs.declared.fault.ProtocolFault.TheVariants.{DuplicateMethodOrdinal}
use Rattle.fidl_protocol.specs.declared.fault.ProtocolFault.TheVariants.{ZeroOrdinal, BadPayload}
use Rattle.fidl_protocol.specs.declared.fault.ProtocolFault.TheVariants.{ComposeCycle, BadSelector}
use Rattle.fidl_protocol.specs.declared.fault.ProtocolFault.TheVariants.{TooManyTypes, Memory}

abbrev pub number_of : ProtocolFault → ℕ
number_of (NotStrict place) = 1
number_of (BadCompose place) = 2
number_of (DuplicateMethod place) = 3
number_of (DuplicateMethodOrdinal place) = 4
number_of (ZeroOrdinal place) = 5
number_of (BadPayload place) = 6
number_of (ComposeCycle place) = 7
number_of (BadSelector place) = 8
number_of (TooManyTypes place) = 9
number_of Memory = 10

abbrev pub name_of : ProtocolFault → List ℕ
name_of (NotStrict place) = codes "NotStrict"
name_of (BadCompose place) = codes "BadCompose"
name_of (DuplicateMethod place) = codes "DuplicateMethod"
name_of (DuplicateMethodOrdinal place) = codes "DuplicateMethodOrdinal"
name_of (ZeroOrdinal place) = codes "ZeroOrdinal"
name_of (BadPayload place) = codes "BadPayload"
name_of (ComposeCycle place) = codes "ComposeCycle"
name_of (BadSelector place) = codes "BadSelector"
name_of (TooManyTypes place) = codes "TooManyTypes"
name_of Memory = codes "Memory"

-- nothing where memory ran out
abbrev pub place_of : ProtocolFault → Option Place
place_of (NotStrict place) = Some place
place_of (BadCompose place) = Some place
place_of (DuplicateMethod place) = Some place
place_of (DuplicateMethodOrdinal place) = Some place
place_of (ZeroOrdinal place) = Some place
place_of (BadPayload place) = Some place
place_of (ComposeCycle place) = Some place
place_of (BadSelector place) = Some place
place_of (TooManyTypes place) = Some place
place_of Memory = None
