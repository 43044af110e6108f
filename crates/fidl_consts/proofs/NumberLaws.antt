-- Numbers that digits write: more digits write no smaller number.
use Rattle.std.proofs.Common.{◌≡◌, ℕ, zero, suc, ◌+◌, ◌*◌, ◌<◌, ◌≤◌, List, [], ◌∷◌, length, take, get_or, refl, sym, ap, ◌∙◌, arith}
use Rattle.std.proofs.lemmas.Int.Digits.{digits_value_more}
use Rattle.std.specs.Char.{digit_value}
use Rattle.std.specs.List.{fold}
use Rattle.std.specs.Str.Parse.{digits_value, digits_value_after}
use Rattle.fidl_span.specs.Strings.{hex_value}

times_ge : (n base : ℕ) → 0 < base → n ≤ n * base
times_ge n zero h = absurd (omega arith)
times_ge n (suc base) h = grind arith

pub after_ge : (base n : ℕ) (ds : List ℕ) → 0 < base → n ≤ digits_value_after base n ds
after_ge base n [] h = omega arith
after_ge base n (d ∷ ds) h =
    let more = times_ge n base h in
    let rest = after_ge base (n * base + digit_value d) ds h in
    omega arith

pub front_after : (base n i : ℕ) (ds : List ℕ) → 0 < base → digits_value_after base n (take i ds) ≤ digits_value_after base n ds
front_after base n zero ds h = after_ge base n ds h
front_after base n (suc i) [] h = omega arith
front_after base n (suc i) (d ∷ ds) h = front_after base (n * base + digit_value d) i ds h

-- some digits and one more write no more than all of them
pub step_below : (base i value : ℕ) (ds : List ℕ) → 0 < base → i < length ds → value ≡ digits_value base (take i ds) → value * base + digit_value (get_or ds i 0) ≤ digits_value base ds
step_below base i value ds h within e =
    let more = digits_value_more base ds i within in
    let next : value * base + digit_value (get_or ds i 0) ≡ digits_value base (take (i + 1) ds) = ap (λ v. v * base + digit_value (get_or ds i 0)) e ∙ sym more in
    let below = front_after base 0 (i + 1) ds h in
    omega arith

-- the number of hexadecimal digits is theirs in base 16
pub hex_after : (n : ℕ) (ds : List ℕ) → fold (λ n d. n * 16 + digit_value d) n ds ≡ digits_value_after 16 n ds
hex_after n [] = refl
hex_after n (d ∷ ds) = hex_after (n * 16 + digit_value d) ds

pub hex_is : (ds : List ℕ) → hex_value ds ≡ digits_value 16 ds
hex_is ds = hex_after 0 ds
