-- Texts of hexadecimal digits.
use Rattle.std.proofs.Common.{◌≡◌, ℕ, ◌%◌, List, Bool, true, false, refl, sym, ◌∙◌}
use Rattle.std.specs.Prelude.{Result, Ok, Err, IsOk, IsErr, MatchBool, length}
use Rattle.std.specs.List.{list_all}
use Rattle.std.proofs.lemmas.List.Sums.{AllPass-from_list_all, list_all-from_AllPass}
use Rattle.hex.specs.Hex.{decode_of, is_hex_digit}
use Rattle.hex.specs.declared.error.FromHexError.{FromHexError}
use Rattle.hex.proofs.HexLemmas.{decode_of-digits, decode_of-ok}

is_ok_of : (r : Result (List ℕ) FromHexError) (bytes : List ℕ) → r ≡ Ok bytes → IsOk r
is_ok_of (Ok x) bytes e = refl
is_ok_of (Err x) bytes e = cc

is_err_of : (r : Result (List ℕ) FromHexError) → ((bytes : List ℕ) → r ≡ Ok bytes → ⊥) → IsErr r
is_err_of (Ok x) none = absurd (none x refl)
is_err_of (Err x) none = refl

-- an even number of bytes decodes just where all are digits
pub hex_cases : (text : List ℕ) (digits : Bool) → length text % 2 ≡ 0 → digits ≡ list_all is_hex_digit text → MatchBool digits (IsOk (decode_of text)) (IsErr (decode_of text))
hex_cases text true even e =
    let r = decode_of-digits text even (AllPass-from_list_all is_hex_digit text (sym e)) in
    is_ok_of (decode_of text) r.0 r.1
hex_cases text false even e =
    is_err_of (decode_of text) (λ bytes h. let bad : true ≡ false = sym (list_all-from_AllPass is_hex_digit text (decode_of-ok text bytes h).1) ∙ sym e in cc)
