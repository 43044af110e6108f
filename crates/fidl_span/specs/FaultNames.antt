-- The number, the name and the span of a fault.
use Rattle.std.specs.Prelude.{ℕ, List, Option, Some, None, codes}
use Rattle.fidl_span.specs.declared.words.Span.{Span}
use Rattle.fidl_span.specs.declared.faults.LexFault.{LexFault}
use Rattle.fidl_span.specs.declared.faults.LexFault.TheVariants.{NotUtf8, BadByte, BadIdentifier}
use Rattle.fidl_span.specs.declared.faults.LexFault.TheVariants.{OpenString, BadEscape, BadNumber}
use Rattle.fidl_span.specs.declared.faults.LexFault.TheVariants.{Memory}

abbrev pub number_of : LexFault → ℕ
number_of (NotUtf8 span) = 1
number_of (BadByte span) = 2
number_of (BadIdentifier span) = 3
number_of (OpenString span) = 4
number_of (BadEscape span) = 5
number_of (BadNumber span) = 6
number_of Memory = 7

abbrev pub name_of : LexFault → List ℕ
name_of (NotUtf8 span) = codes "NotUtf8"
name_of (BadByte span) = codes "BadByte"
name_of (BadIdentifier span) = codes "BadIdentifier"
name_of (OpenString span) = codes "OpenString"
name_of (BadEscape span) = codes "BadEscape"
name_of (BadNumber span) = codes "BadNumber"
name_of Memory = codes "Memory"

-- where the source is at fault; Memory has no place
abbrev pub span_of : LexFault → Option Span
span_of (NotUtf8 span) = Some span
span_of (BadByte span) = Some span
span_of (BadIdentifier span) = Some span
span_of (OpenString span) = Some span
span_of (BadEscape span) = Some span
span_of (BadNumber span) = Some span
span_of Memory = None
