use Rattle.fidl_decode_columns.proofs.Numbers.{negative}
use Rattle.fidl_decode_columns.proofs.worked.types_without_a_sign.Goals as goal

pub returns-clause-signed : goal.returns-clause-signed
returns-clause-signed c = λ h. negative 18446744073709551615 (h 18446744073709551615)
