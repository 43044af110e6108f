use Rattle.std.proofs.Common.{rules, arith, refl, replicate}
use Rattle.fidl_wire.specs.Value.{fields, none}
use Rattle.fidl_header.specs.Header.{IsHeader}
use Rattle.fidl_decode_model.specs.declared.fault.DecodeFault.TheVariants.{BytesLeft}
use Rattle.fidl_requests.specs.Frame.{message_length, handle_count, message_of, handle_of, handles_of}
use Rattle.fidl_requests.specs.Samples.{a_frame}
use Rattle.fidl_dump.specs.Methods.{NamesMethod}
use Rattle.fidl_dump.specs.Faults.{IsBodyFault, no_value}
use Rattle.fidl_dump.specs.Samples.{one_value, value_protocol}
use Rattle.fidl_dump.proofs.worked.a_body_with_bytes_left.Goals as goal

begins : IsHeader (message_of (a_frame 1 0 0 1 (replicate 16 0)))
unfolding message_length message_of
begins = record { long = omega arith; magic = refl; version = λ e. absurd (omega (arith, e)); whole = refl }

first : NamesMethod value_protocol 1 0
first = record { place = 0; at = record { within = omega arith; is = refl }; is = refl }

left : IsBodyFault one_value 0 (a_frame 1 0 0 1 (replicate 16 0)) (BytesLeft 8)
unfolding message_length handle_count message_of handle_of handles_of
left = ((omega arith, omega arith), omega arith, (0, (fields none, search rules)))

pub returns : goal.returns
unfolding message_length message_of
returns c = no_value 0 0 (BytesLeft 8) begins first refl left
