use Rattle.fidl_table_format.specs.Section.{entry_at}
use Rattle.fidl_verify.proofs.Enumerated.{bits_number, enum_number}
use Rattle.fidl_verify.proofs.laws.underlying_types_are_numbers.Goals as goal

pub returns-clause-of_bits : goal.returns-clause-of_bits
returns-clause-of_bits c = λ bytes w index p is. bits_number (entry_at bytes index) ((w.entries index p).shape.bits is).subtype

pub returns-clause-of_enums : goal.returns-clause-of_enums
returns-clause-of_enums c = λ bytes w index p is. enum_number (entry_at bytes index) ((w.entries index p).shape.enum is).subtype
