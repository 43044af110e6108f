-- Lines of words with one blank between (docs/program.md, "table").
use Rattle.std.specs.Prelude.{ℕ, ◌==◌, if◌then◌else◌, List, [], ◌∷◌, ◌++◌, flat_map}
use Rattle.std.specs.Prelude.{codes, decimal}
use Rattle.std.specs.Int.{w64, to_be_bytes}
use Rattle.fidl_wire.specs.Text.{hex_byte}
use Rattle.fidl_table_format.specs.Method.{no_payload}
use Rattle.fidl_text.specs.declared.words.Word.{Word}
use Rattle.fidl_text.specs.declared.words.Word.TheVariants.{Text, Name, Number, Counted}
use Rattle.fidl_text.specs.declared.words.Word.TheVariants.{Ordinal, Payload}

-- a name, `-` where it is empty
abbrev pub name_word : List ℕ → List ℕ
name_word [] = codes "-"
name_word (byte ∷ rest) = byte ∷ rest

-- an ordinal in 16 hex digits
abbrev pub ordinal_word : ℕ → List ℕ
ordinal_word n = flat_map hex_byte (to_be_bytes w64 n)

-- the entry of a payload, `-` where there is none
abbrev pub payload_word : ℕ → List ℕ
payload_word n = if n == no_payload then codes "-" else decimal n

-- a word of a line
abbrev pub word_text : Word → List ℕ
word_text (Text text) = text.now
word_text (Name name) = name_word name.now
word_text (Number n) = decimal n
word_text (Counted n) = decimal n ++ codes ","
word_text (Ordinal n) = ordinal_word n
word_text (Payload n) = payload_word n

-- words with one blank between, and a line feed
abbrev pub words_line : (first : List ℕ) (rest : List (List ℕ)) → List ℕ
words_line first rest = first ++ flat_map (λ word. codes " " ++ word) rest ++ codes "\n"
