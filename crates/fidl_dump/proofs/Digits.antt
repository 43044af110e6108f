-- The hex digits of an ordinal.
use Rattle.std.proofs.Common.{◌≡◌, ℕ, ◌/◌, ◌%◌, ◌<◌, List, [], ◌∷◌, slice_index, flat_map, refl, ap, ◌∙◌, arith, below_none, below_more}
use Rattle.std.specs.Int.{w64, to_be_bytes}
use Rattle.hex.specs.Hex.{lower_digits, encode_with, encode_lower}
use Rattle.fidl_wire.specs.Text.{hex_digit, hex_byte}
use Rattle.fidl_text.specs.Words.{ordinal_word}

abbrev IsDigit : ℕ → Type 0
IsDigit d = slice_index lower_digits d ≡ hex_digit d

low_digit_is : (d : ℕ) → d < 8 → IsDigit d
low_digit_is =
    below_more IsDigit 7 (below_more IsDigit 6 (below_more IsDigit 5 (below_more IsDigit 4 (below_more IsDigit 3 (below_more IsDigit 2 (below_more IsDigit 1 (below_more IsDigit 0 (below_none IsDigit) refl) refl) refl) refl) refl) refl) refl) refl

digit_is : (d : ℕ) → d < 16 → IsDigit d
digit_is =
    below_more IsDigit 15 (below_more IsDigit 14 (below_more IsDigit 13 (below_more IsDigit 12 (below_more IsDigit 11 (below_more IsDigit 10 (below_more IsDigit 9 (below_more IsDigit 8 (low_digit_is) refl) refl) refl) refl) refl) refl) refl) refl

abbrev AreBytes : List ℕ → Type 0
AreBytes [] = Unit {0}
AreBytes (b ∷ bs) = (b < 256) × AreBytes bs

hex_of : (bytes : List ℕ) → AreBytes bytes → encode_lower bytes ≡ flat_map hex_byte bytes
unfolding encode_with
hex_of [] h = refl
hex_of (b ∷ bs) h =
    let less = h.0 in
    let high = digit_is (b / 16) (omega (arith, less)) in
    let low = digit_is (b % 16) (omega arith) in
    let rest = hex_of bs h.1 in cc

pub digits_of : (n : ℕ) (digits bytes : List ℕ) → digits ≡ encode_lower bytes → bytes ≡ to_be_bytes w64 n → digits ≡ ordinal_word n
digits_of n digits bytes e is =
    e
    ∙ ap encode_lower is
    ∙ hex_of (to_be_bytes w64 n) (omega arith, (omega arith, (omega arith, (omega arith, (omega arith, (omega arith, (omega arith, (omega arith, tt))))))))
