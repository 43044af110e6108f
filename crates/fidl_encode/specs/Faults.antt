-- The numbers and names of the refusals (docs/encoding.md, "Refusals").
use Rattle.std.specs.Prelude.{ℕ, List, codes}
use Rattle.fidl_encode.specs.declared.fault.EncodeFault.{EncodeFault}
use Rattle.fidl_encode.specs.declared.fault.EncodeFault.TheVariants.{WrongShape, OverBound, NotUtf8}
use Rattle.fidl_encode.specs.declared.fault.EncodeFault.TheVariants.{UnknownValue, WrongHandle, TooDeep}
use Rattle.fidl_encode.specs.declared.fault.EncodeFault.TheVariants.{TooLong, TooManyHandles, Memory}

-- the refusal's number
abbrev pub number_of : EncodeFault → ℕ
number_of WrongShape = 1
number_of OverBound = 2
number_of NotUtf8 = 3
number_of UnknownValue = 4
number_of WrongHandle = 5
number_of TooDeep = 6
number_of TooLong = 7
number_of TooManyHandles = 8
number_of Memory = 9

-- the refusal's name
abbrev pub name_of : EncodeFault → List ℕ
name_of WrongShape = codes "WrongShape"
name_of OverBound = codes "OverBound"
name_of NotUtf8 = codes "NotUtf8"
name_of UnknownValue = codes "UnknownValue"
name_of WrongHandle = codes "WrongHandle"
name_of TooDeep = codes "TooDeep"
name_of TooLong = codes "TooLong"
name_of TooManyHandles = codes "TooManyHandles"
name_of Memory = codes "Memory"
