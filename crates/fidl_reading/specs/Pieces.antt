-- What pieces of a text between quotes stand for.
use Rattle.std.specs.Prelude.{◌≢◌, ℕ, List, [], ◌∷◌, ◌++◌}
use Rattle.std.specs.Char.{encode_utf8}
use Rattle.fidl_reading.specs.declared.code.Code.{Code}
use Rattle.fidl_reading.specs.declared.code.Code.TheVariants.{Byte, Character}
use Rattle.fidl_spelling.specs.Words.{Piece}

-- the byte, or the character in UTF-8
abbrev pub bytes_of : Code → List ℕ
bytes_of (Byte b) = b ∷ []
bytes_of (Character c) = encode_utf8 c

-- no piece stands here
abbrev pub BeginsNoPiece : List ℕ → Type 0
BeginsNoPiece here = (a x rest : List ℕ) → Piece a x → here ≢ a ++ rest
