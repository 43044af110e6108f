-- Where the text of an argument stands, and the bytes of a message (docs/program.md, "decode").
use Rattle.std.specs.Prelude.{◌≡◌, ◌≢◌, ⊤, ℕ, ◌==◌, ◌||◌, Bool, true, false, not, List, ◌∷◌, codes}
use Rattle.std.specs.Prelude.{Result, Ok, IsErr, IsOk, if◌then◌else◌, filter}
use Rattle.hex.specs.Hex.{decode_of}
use Rattle.hex.specs.declared.error.FromHexError.{FromHexError}
use Rattle.fidl_command_line.specs.declared.content.Stored.{Stored}
use Rattle.fidl_command_line.specs.declared.content.Stored.TheVariants.{File, Input}
use Rattle.fidl_command_line.specs.declared.content.Content.{Content}
use Rattle.fidl_command_line.specs.declared.content.Content.TheVariants as content
use Rattle.fidl_command_line.specs.declared.content.Message.{Message}
use Rattle.fidl_command_line.specs.declared.content.Message.TheVariants as message
use Rattle.fidl_command_line.specs.declared.unread.Unread.{Unread}
use Rattle.fidl_command_line.specs.declared.unread.Unread.TheVariants.{BadHex, BadRaw, Memory}

-- an argument names where its text stands: `@` and a file's name, or `-` for the standard input
abbrev pub StandsIn : (argument : List ℕ) → Stored → Type 0
StandsIn argument (File name) = argument ≡ 64 ∷ name.now
StandsIn argument Input = argument ≡ codes "-"

-- an argument is its text itself
pub record IsHere (argument : List ℕ) : Type 0 where
  pub no_input : argument ≢ codes "-"
  pub no_file : (name : List ℕ) → argument ≢ 64 ∷ name

-- where the text of an argument stands
abbrev pub IsContent : (argument : List ℕ) → Content → Type 0
IsContent argument (content.Here text) = IsHere argument × (text.now ≡ argument)
IsContent argument (content.Stored place) = StandsIn argument place

-- the argument HEX gives this message: its digits the bytes, or the place that it names
abbrev pub IsMessage : (hex : List ℕ) (raw : Bool) → Message → Type 0
IsMessage hex raw (message.Bytes bytes) =
    IsHere hex × (raw ≡ false) × (decode_of hex ≡ Ok bytes.items)
IsMessage hex raw (message.Stored place as_it_is) = StandsIn hex place × (as_it_is ≡ raw)

-- digits are wrong and reported so, or they are right and memory ran out
abbrev pub IsHexFault : (digits : List ℕ) → Unread → Type 0
IsHexFault digits BadHex = IsErr (decode_of digits)
IsHexFault digits Memory = IsOk (decode_of digits)
IsHexFault digits _ = ⊥

-- why the argument HEX gives no message
abbrev pub IsNoMessage : (hex : List ℕ) (raw : Bool) → Unread → Type 0
IsNoMessage hex raw BadHex = IsHere hex × (raw ≡ false) × IsErr (decode_of hex)
IsNoMessage hex raw BadRaw = IsHere hex × (raw ≡ true)
IsNoMessage hex raw Memory = ⊤
IsNoMessage hex raw _ = ⊥

-- a blank, a tab, or the end of a line
abbrev pub is_blank : ℕ → Bool
is_blank b = (b == 32) || (b == 9) || (b == 13) || (b == 10)

abbrev pub without_blanks : List ℕ → List ℕ
without_blanks text = filter (λ b. not (is_blank b)) text

-- the bytes of a message that a file or the standard input holds
abbrev pub message_of : (raw : Bool) (held : List ℕ) → Result (List ℕ) FromHexError
message_of raw held = if raw then Ok held else decode_of (without_blanks held)

-- why a file or the standard input holds no message
abbrev pub IsHeldFault : (raw : Bool) (held : List ℕ) → Unread → Type 0
IsHeldFault raw held BadHex = IsErr (message_of raw held)
IsHeldFault raw held Memory = ⊤
IsHeldFault raw held _ = ⊥
