-- What a file or the standard input holds that an argument names (docs/program.md, "decode").
use Rattle.std.specs.Prelude.{◌≡◌, ⊤, ℕ, List, ◌++◌, Option, None, IfSome, Ok, IsErr, codes, Bool}
use Rattle.std.specs.Io.KnownBytes.{Appends}
use Rattle.fidl_command_line.specs.Contents.{message_of}
use Rattle.fidl_command_line.specs.Complaints.{complaint_of}
use Rattle.fidl_command_line.specs.declared.content.Stored.{Stored}
use Rattle.fidl_command_line.specs.declared.content.Stored.TheVariants.{File, Input}
use Rattle.fidl_command_line.specs.declared.content.Content.{Content}
use Rattle.fidl_command_line.specs.declared.content.Content.TheVariants as content
use Rattle.fidl_command_line.specs.declared.content.Message.{Message}
use Rattle.fidl_command_line.specs.declared.content.Message.TheVariants as message
use Rattle.fidl_command_line.specs.declared.unread.Unread.TheVariants as unread
use Rattle.fidl_commands.specs.Files.{IsMissing, NamesFile}
use Rattle.fidl_commands.specs.declared.outcome.Outcome.{Outcome}
use Rattle.fidl_commands.specs.declared.outcome.Outcome.TheVariants.{NoFile, WrongText, Unwritten}
use Rattle.fidl_commands.specs.declared.outcome.Outcome.TheVariants.{NoMemory}

-- the bytes of a file or of the standard input, where they are known
abbrev pub known_bytes : (bytes_of : List ℕ → Option (List ℕ)) → (input : Option (List ℕ)) → Stored
    → Option (List ℕ)
known_bytes bytes_of input (File name) = bytes_of name.now
known_bytes bytes_of input Input = input

-- these are the bytes that it holds, as far as these are known
abbrev pub HoldsBytes : (bytes_of : List ℕ → Option (List ℕ)) → (input : Option (List ℕ)) → Stored
    → List ℕ → Type 0
HoldsBytes bytes_of input place held =
    IfSome (known_bytes bytes_of input place) (λ known. held ≡ known)

-- its bytes are not known, and the line for it is printed: for the standard input that of `-`
abbrev pub IsStoredMissing : (bytes_of : List ℕ → Option (List ℕ)) → (input : Option (List ℕ))
    → Stored → (old new : Option (List ℕ)) → Type 0
IsStoredMissing bytes_of input (File name) old new = IsMissing bytes_of name.now old new
IsStoredMissing bytes_of input Input old new = (input ≡ None) × NamesFile (codes "-") old new

-- the line for a text that is no even number of hexadecimal digits
abbrev pub wrong_hex_line : List ℕ
wrong_hex_line = complaint_of unread.BadHex ++ codes "\n"

-- a text holds no message, and the line that says so is printed
pub record IsNoMessage (raw : Bool) (held : List ℕ) (old new : Option (List ℕ)) : Type 0 where
  pub wrong : IsErr (message_of raw held)
  pub line : Appends old new wrong_hex_line

-- these are the bytes of the message that the argument HEX gives, as far as what it names is known
abbrev pub IsGivenBytes : (bytes_of : List ℕ → Option (List ℕ)) → (input : Option (List ℕ))
    → Message → List ℕ → Type 0
IsGivenBytes bytes_of input (message.Bytes given) bytes = bytes ≡ given.items
IsGivenBytes bytes_of input (message.Stored place raw) bytes =
    IfSome (known_bytes bytes_of input place) (λ held. message_of raw held ≡ Ok bytes)

-- what it names is not known, and the line for it is printed
abbrev pub LacksContent : (bytes_of : List ℕ → Option (List ℕ)) → (input : Option (List ℕ))
    → Message → (old new : Option (List ℕ)) → Type 0
LacksContent bytes_of input (message.Bytes given) old new = ⊥
LacksContent bytes_of input (message.Stored place raw) old new =
    IsStoredMissing bytes_of input place old new

-- what it names holds no message, and the line that says so is printed
abbrev pub HasNoBytes : (bytes_of : List ℕ → Option (List ℕ)) → (input : Option (List ℕ))
    → Message → (old new : Option (List ℕ)) → Type 0
HasNoBytes bytes_of input (message.Bytes given) old new = ⊥
HasNoBytes bytes_of input (message.Stored place raw) old new =
    IfSome (known_bytes bytes_of input place) (λ held. IsNoMessage raw held old new)

-- the argument HEX gives a message of which this holds
abbrev pub OfMessage : (bytes_of : List ℕ → Option (List ℕ)) → (input : Option (List ℕ))
    → Message → (List ℕ → Type 0) → Type 0
OfMessage bytes_of input given Holds =
    (bytes : List ℕ) × IsGivenBytes bytes_of input given bytes × Holds bytes

-- this is the text of an argument, as far as what it names is known
abbrev pub IsGivenText : (bytes_of : List ℕ → Option (List ℕ)) → (input : Option (List ℕ))
    → Content → List ℕ → Type 0
IsGivenText bytes_of input (content.Here given) text = text ≡ given.now
IsGivenText bytes_of input (content.Stored place) text = HoldsBytes bytes_of input place text

-- what the argument names is not known, and the line for it is printed
abbrev pub LacksText : (bytes_of : List ℕ → Option (List ℕ)) → (input : Option (List ℕ))
    → Content → (old new : Option (List ℕ)) → Type 0
LacksText bytes_of input (content.Here given) old new = ⊥
LacksText bytes_of input (content.Stored place) old new =
    IsStoredMissing bytes_of input place old new

-- the argument gives a text of which this holds
abbrev pub OfText : (bytes_of : List ℕ → Option (List ℕ)) → (input : Option (List ℕ)) → Content
    → (List ℕ → Type 0) → Type 0
OfText bytes_of input given Holds =
    (text : List ℕ) × IsGivenText bytes_of input given text × Holds text

-- what can happen where a file or the standard input is not read
abbrev pub CanEndReading : Outcome → Type 0
CanEndReading NoFile = ⊤
CanEndReading Unwritten = ⊤
CanEndReading NoMemory = ⊤
CanEndReading _ = ⊥

-- what can happen where a text that was read holds no message
abbrev pub CanEndHeld : Outcome → Type 0
CanEndHeld WrongText = ⊤
CanEndHeld Unwritten = ⊤
CanEndHeld NoMemory = ⊤
CanEndHeld _ = ⊥

-- what can happen where the argument HEX gives no message
abbrev pub CanEndGiven : Outcome → Type 0
CanEndGiven WrongText = ⊤
CanEndGiven NoFile = ⊤
CanEndGiven Unwritten = ⊤
CanEndGiven NoMemory = ⊤
CanEndGiven _ = ⊥
