-- The line of a frame (docs/program.md, "dump").
use Rattle.std.specs.Prelude.{◌≡◌, ℕ, List, [], ◌∷◌, ◌++◌, drop, codes, decimal}
use Rattle.fidl_wire.specs.Term as ty
use Rattle.fidl_wire.specs.Value.{Value}
use Rattle.fidl_wire.specs.Message.{Encodes}
use Rattle.fidl_wire.specs.Text.{Text}
use Rattle.fidl_table_format.specs.Terms.{declarations_of}
use Rattle.fidl_header.specs.Header.{IsHeader}
use Rattle.fidl_header.specs.declared.header.Header.{Header}
use Rattle.fidl_verify.specs.declared.method.Payload.TheVariants.{Empty, Entry}
use Rattle.fidl_verify.specs.Lookups.{TableProtocol}
use Rattle.fidl_requests.specs.Frame.{message_of, handles_of}
use Rattle.fidl_requests.specs.Verdict.{frame_head}
use Rattle.fidl_text.specs.Words.{ordinal_word, words_line}
use Rattle.fidl_dump.specs.declared.direction.Direction.{Direction}
use Rattle.fidl_dump.specs.Methods.{NamesMethod, carried_of, IsUnknown, full_name_of}

-- the bytes after the header of a frame's message
abbrev pub body_of : (frame : List ℕ) → List ℕ
body_of frame = drop 16 (message_of frame)

-- the message in a frame has nothing behind its header, and no handles
abbrev pub IsBare : (frame : List ℕ) → Type 0
IsBare frame = (body_of frame ≡ []) × (handles_of frame ≡ [])

-- the front of each line: the transaction id, and the ordinal in 16 hex digits
abbrev pub front_text : Header → List ℕ
front_text h = decimal h.txid ++ codes " " ++ ordinal_word h.ordinal

-- the line of a message of an unknown ordinal
abbrev pub unknown_line : Header → List ℕ
unknown_line h = words_line (decimal h.txid) (ordinal_word h.ordinal ∷ codes "unknown" ∷ [])

-- the line of a message that carries nothing, of the method of this name
abbrev pub bare_line : Header → (name : List ℕ) → List ℕ
bare_line h name = words_line (decimal h.txid) (ordinal_word h.ordinal ∷ name ∷ [])

-- the line of a message that carries a value of this text
abbrev pub value_line : Header → (name text : List ℕ) → List ℕ
value_line h name text =
    words_line (decimal h.txid) (ordinal_word h.ordinal ∷ name ∷ text ∷ [])

-- the body and the handles of a frame encode this value of the type of an entry
abbrev pub Holds : (table : List ℕ) → (entry : ℕ) → (frame : List ℕ) → Value → Type 0
Holds table entry frame v =
    Encodes (declarations_of table) (ty.named entry) v (body_of frame) (handles_of frame)

-- the text of a value of the type of an entry
abbrev pub value_text : (table : List ℕ) → (entry : ℕ) → Value → List ℕ
value_text table entry v = Text (declarations_of table) (ty.named entry) v

-- the line of a frame, by what the stream holds
pub data IsLine (p : TableProtocol) (direction : Direction) (frame : List ℕ) : List ℕ → Type 0 where
  -- no method with messages of the direction has the ordinal; the body is not read
  unknown : IsHeader (message_of frame) → IsUnknown p direction (frame_head frame).ordinal
      → IsLine p direction frame (unknown_line (frame_head frame))
  -- the method's message carries nothing, and there is no body and no handle
  bare : (number : ℕ) → IsHeader (message_of frame)
      → NamesMethod p (frame_head frame).ordinal number
      → carried_of p.table direction number ≡ Empty → IsBare frame
      → IsLine p direction frame (bare_line (frame_head frame) (full_name_of p.table number))
  -- the method's message carries a value of the type of an entry
  valued : (number entry : ℕ) → (v : Value) → IsHeader (message_of frame)
      → NamesMethod p (frame_head frame).ordinal number
      → carried_of p.table direction number ≡ Entry entry
      → Holds p.table entry frame v
      → IsLine p direction frame
      (value_line (frame_head frame) (full_name_of p.table number) (value_text p.table entry v))

-- the lines of frames in their order
pub data AreLines (p : TableProtocol) (direction : Direction) : (frames : List (List ℕ))
    → (text : List ℕ) → Type 0 where
  none : AreLines p direction [] []
  more : (frame line : List ℕ) → (frames : List (List ℕ)) → (text : List ℕ)
      → IsLine p direction frame line → AreLines p direction frames text
      → AreLines p direction (frame ∷ frames) (line ++ text)
