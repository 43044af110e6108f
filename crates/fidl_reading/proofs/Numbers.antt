-- The numbers that words write.
use Rattle.std.proofs.Common.{rules, ◌≡◌, ℕ, ◌+◌, ◌-◌, ◌*◌, ◌^◌, ◌<◌, ◌≤◌, true, List, [], ◌∷◌, length, take, get_or, refl, ap, ◌∙◌, arith, zero, suc}
use Rattle.std.proofs.Math.Nat.{pow-le-pow_right}
use Rattle.std.specs.Prelude.{IsUtf8}
use Rattle.std.specs.Char.{is_ascii_digit, digit_value}
use Rattle.std.specs.List.{list_all}
use Rattle.std.specs.Str.Parse.{AllDigits, digits_value}
use Rattle.std.proofs.lemmas.Int.Digits.{digits_value-lt, digits_value_more}
use Rattle.std.proofs.lemmas.Str.Parse.{digits_value-take-le, digit_from_value}
use Rattle.std.proofs.lemmas.Str.{digit_value_digit}
use Rattle.std.proofs.lemmas.Bool.{and_parts, and_from}
use Rattle.std.proofs.lemmas.Str.{IsUtf8-from_ascii}

digit_small : (c : ℕ) → is_ascii_digit c ≡ true → digit_value c < 10
digit_small c h = search (rules, h)

small_digit : (c : ℕ) → digit_value c < 10 → is_ascii_digit c ≡ true
small_digit c h = search (rules, h)

pub digits_to : (w : List ℕ) → list_all is_ascii_digit w ≡ true → AllDigits 10 w
digits_to [] h = tt
digits_to (c ∷ w) h = let p = and_parts (is_ascii_digit c) (list_all is_ascii_digit w) h in (digit_small c p.0, digits_to w p.1)

pub digits_from : (w : List ℕ) → AllDigits 10 w → list_all is_ascii_digit w ≡ true
digits_from [] h = refl
digits_from (c ∷ w) h = and_from (is_ascii_digit c) (list_all is_ascii_digit w) (small_digit c h.0) (digits_from w h.1)

digit_ascii : (c : ℕ) → digit_value c < 10 → c < 128
digit_ascii c h = search (rules, h)

digits_ascii : (w : List ℕ) → AllDigits 10 w → (i : ℕ) → get_or w i 0 < 128
digits_ascii [] h i = omega arith
digits_ascii (c ∷ w) h zero = digit_ascii c h.0
digits_ascii (c ∷ w) h (suc i) = digits_ascii w h.1 i

-- digits are UTF-8
pub digits_utf8 : (w : List ℕ) → AllDigits 10 w → IsUtf8 w
digits_utf8 w h = IsUtf8-from_ascii w (digits_ascii w h)

-- a digit of a numeral
pub digit_at : (w : List ℕ) → AllDigits 10 w → (i : ℕ) → i < length w → digit_value (get_or w i 0) < 10
digit_at [] h i lt = absurd (omega (arith, lt))
digit_at (c ∷ w) h zero lt = h.0
digit_at (c ∷ w) h (suc i) lt = digit_at w h.1 i (omega (arith, lt))

-- at most 19 digits write a number of 64 bits
pub short_small : (w : List ℕ) → AllDigits 10 w → length w ≤ 19 → digits_value 10 w < 2 ^ 64
short_small w h short =
    let below = digits_value-lt 10 w h in
    let most : 10 ^ length w ≤ 10 ^ 19 = pow-le-pow_right (omega arith) short in
    omega (arith, below, most)

-- one digit more, in the range of 64 bits
pub digit_more : (w : List ℕ) → AllDigits 10 w → length w ≤ 19 → (i : ℕ) → i < length w → (48 ≤ get_or w i 0)
    × (digits_value 10 (take (i + 1) w) ≡ digits_value 10 (take i w) * 10 + (get_or w i 0 - 48)) × (digits_value 10 (take i w) * 10 + (get_or w i 0 - 48) < 2 ^ 64)
digit_more w h short i lt =
    let c = get_or w i 0 in
    let is = digit_value_digit c (digit_from_value c (digit_at w h i lt)) in
    let more = digits_value_more 10 w i lt in
    let part = digits_value-take-le 10 w (i + 1) (omega arith) in
    let all = short_small w h short in
    let value : digit_value c ≡ c - 48 = omega (arith, is) in
    let whole : digits_value 10 (take (i + 1) w) ≡ digits_value 10 (take i w) * 10 + (c - 48) = more ∙ ap (λ d. digits_value 10 (take i w) * 10 + d) value in
    (omega (arith, is), whole, omega (arith, whole, part, all))
