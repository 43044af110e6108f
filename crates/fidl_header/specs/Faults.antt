-- What each refusal says of bytes (docs/service.md, "Headers").
use Rattle.std.specs.Prelude.{◌≡◌, ◌≢◌, ℕ, ◌<◌, bit_and, List, length, slice_index, codes}
use Rattle.fidl_header.specs.declared.fault.HeaderFault.{HeaderFault}
use Rattle.fidl_header.specs.declared.fault.HeaderFault.TheVariants.{Short, BadMagic, NotVersion2}
use Rattle.fidl_header.specs.declared.fault.HeaderFault.TheVariants.{Overflow}

-- the fault's number
abbrev pub number_of : HeaderFault → ℕ
number_of Short = 1
number_of BadMagic = 2
number_of NotVersion2 = 3
number_of Overflow = 4

-- the fault's name, as its variant is spelled
abbrev pub name_of : HeaderFault → List ℕ
name_of Short = codes "Short"
name_of BadMagic = codes "BadMagic"
name_of NotVersion2 = codes "NotVersion2"
name_of Overflow = codes "Overflow"

-- what a refusal says of the bytes
abbrev pub IsRefused : List ℕ → HeaderFault → Type 0
IsRefused bytes Short = length bytes < 16
IsRefused bytes BadMagic = slice_index bytes 7 ≢ 1
IsRefused bytes NotVersion2 = bit_and (slice_index bytes 4) 2 ≡ 0
IsRefused bytes Overflow = bit_and (slice_index bytes 6) 64 ≢ 0
