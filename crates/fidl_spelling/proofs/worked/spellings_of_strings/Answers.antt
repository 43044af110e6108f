use Rattle.std.proofs.Common.{codes, refl, arith}
use Rattle.std.specs.Char.{encode_utf8}
use Rattle.fidl_spelling.specs.Words.{IsPlain, IsCharacter, plain, letter, character, no_pieces, piece}
use Rattle.fidl_spelling.proofs.worked.spellings_of_strings.Goals as goal

pub returns : goal.returns
unfolding encode_utf8
returns c =
    let a : IsPlain 97 = record { no_quote = omega arith; no_backslash = omega arith; no_line_feed = omega arith; no_return = omega arith } in
    let e : IsCharacter (codes "00e9") = record { hex = refl; some = (omega arith, (omega arith, (omega arith, (omega arith, (omega arith, tt))))); at_most_six = omega arith; scalar = refl } in
    (codes "\"a\\n\\u{00e9}\"", (codes "a\\n\\u{00e9}", piece (plain a) (piece (letter refl) (piece (character e) no_pieces)), refl), refl)
