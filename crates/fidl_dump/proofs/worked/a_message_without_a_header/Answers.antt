use Rattle.std.proofs.Common.{◌≡◌, arith}
use Rattle.fidl_header.specs.declared.fault.HeaderFault.TheVariants.{BadMagic}
use Rattle.fidl_requests.specs.Frame.{message_length, message_of}
use Rattle.fidl_dump.specs.Faults.{no_header}
use Rattle.fidl_dump.proofs.worked.a_message_without_a_header.Goals as goal

pub returns : goal.returns
unfolding message_length message_of
returns c = no_header BadMagic (λ (e : 2 ≡ 1). absurd (omega (arith, e)))
