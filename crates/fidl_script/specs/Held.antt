-- What the structs of the code stand for.
use Rattle.std.specs.Prelude.{ℕ, Bool, List, map, drop, slice_index_or, Option}
use Rattle.std.specs.Option.{option_map}
use Rattle.fidl_encode.specs.declared.message.Message.{Message}
use Rattle.fidl_script.specs.declared.lines.SaidLine.{SaidLine}
use Rattle.fidl_script.specs.declared.phrases.ReplyWords.{ReplyWords}
use Rattle.fidl_script.specs.Lines.{Line}
use Rattle.fidl_script.specs.Script.{Body, Replies, empty_body}

-- the line of a text
abbrev pub line_view : SaidLine → Line
line_view line = record { number = line.number; bytes = line.bytes.now }

-- the lines, in order
abbrev pub lines_view : List SaidLine → List Line
lines_view lines = map line_view lines

-- the text behind a method, where there is one
abbrev pub text_view : ReplyWords → Option (List ℕ)
text_view words = option_map (λ text. text.now) words.text

-- the body that a message is
abbrev pub body_view : Message → Body
body_view m = record { bytes = m.bytes.items; handles = m.handles.items }

-- the bodies, in order
abbrev pub bodies_view : List Message → List Body
bodies_view ms = map body_view ms

-- the replies of a method by their bodies, of which there is one at least
abbrev pub replies_of : (ordinal : ℕ) → (flexible : Bool) → List Body → Replies
replies_of ordinal flexible bodies = record {
  ordinal = ordinal;
  flexible = flexible;
  next = slice_index_or bodies 0 empty_body;
  later = drop 1 bodies;
}
