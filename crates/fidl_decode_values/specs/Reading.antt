-- What a decoder reads: the message as it came, whatever links are noted in it.
use Rattle.std.specs.Prelude.{◌≡◌, ℕ, List}
use Rattle.fidl_decode_model.specs.declared.frame.State.{State}
use Rattle.fidl_decode_model.specs.Faults.{message_of}
use Rattle.fidl_decode_model.specs.State as state
use Rattle.fidl_decode_values.specs.declared.decoder.Decoder.{Decoder}

-- the bytes of the message as it came
abbrev pub came : Decoder → List ℕ
came d = d.bytes.value.came

-- the message, with its handles
abbrev pub message : Decoder → state.Message
message d = message_of (came d) d.handles.now

-- the links of a state are those of the decoder's message
abbrev pub Holds : Decoder → State → Type 0
Holds d s = s.links.came ≡ came d
