-- The symbols of one byte.
use Rattle.std.specs.Prelude.{ℕ, List, [], ◌∷◌, Option, ◌==◌}
use Rattle.std.specs.Map.{lookup}
use Rattle.fidl_span.specs.declared.words.WordKind.{WordKind}
use Rattle.fidl_span.specs.declared.words.WordKind.TheVariants.{Semicolon, Colon, Comma, Dot}
use Rattle.fidl_span.specs.declared.words.WordKind.TheVariants.{Equals, Bar, At, LeftParenthesis}
use Rattle.fidl_span.specs.declared.words.WordKind.TheVariants.{RightParenthesis, LeftBrace}
use Rattle.fidl_span.specs.declared.words.WordKind.TheVariants.{RightBrace, Less, Greater, Minus}

-- symbols of one byte, by their bytes: ; : , . = | @ ( ) { } < > -
abbrev pub symbols : List (ℕ × WordKind)
symbols = (59, Semicolon) ∷ (58, Colon) ∷ (44, Comma) ∷ (46, Dot) ∷ (61, Equals) ∷ (124, Bar)
    ∷ (64, At)
    ∷ (40, LeftParenthesis) ∷ (41, RightParenthesis) ∷ (123, LeftBrace) ∷ (125, RightBrace)
    ∷ (60, Less) ∷ (62, Greater) ∷ (45, Minus) ∷ []

-- the symbol that this byte is, if it is one
unfoldable pub symbol_of : ℕ → Option WordKind
symbol_of b = lookup (λ c. c == b) symbols
