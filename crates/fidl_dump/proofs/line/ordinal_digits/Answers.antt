use Rattle.fidl_dump.proofs.Digits.{digits_of}
use Rattle.fidl_dump.proofs.line.ordinal_digits.Goals as goal

pub returns : goal.returns
returns c = digits_of _ _ _ c.in-Ok.ensures.written c.to_be_bytes.ensures
