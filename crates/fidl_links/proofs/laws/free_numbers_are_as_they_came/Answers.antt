use Rattle.std.proofs.Common.{◌+◌, ap}
use Rattle.std.specs.Int.{byte_len, from_le_bytes}
use Rattle.fidl_links.proofs.Free.{agreed_part}
use Rattle.fidl_links.proofs.laws.free_numbers_are_as_they_came.Goals as goal

pub returns : goal.returns
returns c = λ m raw same agree width place room free. ap (λ l. from_le_bytes width l) (agreed_part m raw same agree place (place + byte_len width) room free)
