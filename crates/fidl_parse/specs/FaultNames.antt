-- The number, the name and the span of a fault.
use Rattle.std.specs.Prelude.{ℕ, List, Option, Some, None, codes}
use Rattle.fidl_span.specs.declared.words.Span.{Span}
use Rattle.fidl_parse.specs.declared.fault.ParseFault.{ParseFault}
use Rattle.fidl_parse.specs.declared.fault.ParseFault.TheVariants.{Unexpected, TooNested, Memory}

abbrev pub number_of : ParseFault → ℕ
number_of (Unexpected span) = 1
number_of (TooNested span) = 2
number_of Memory = 3

abbrev pub name_of : ParseFault → List ℕ
name_of (Unexpected span) = codes "Unexpected"
name_of (TooNested span) = codes "TooNested"
name_of Memory = codes "Memory"

-- where the source is at fault; Memory has no place
abbrev pub span_of : ParseFault → Option Span
span_of (Unexpected span) = Some span
span_of (TooNested span) = Some span
span_of Memory = None
