-- The number that hex digits write.
use Rattle.std.proofs.Common.{rules, ◌≡◌, ℕ, ◌+◌, ◌*◌, ◌^◌, ◌<◌, ◌≤◌, List, [], ◌∷◌, length, take, get_or, IsTrue, sym, refl, ap, ◌∙◌, pow_mono, pow-add, arith}
use Rattle.std.specs.Prelude.{fold}
use Rattle.std.proofs.lemmas.Bool.{and_parts}
use Rattle.std.proofs.lemmas.List.Sums.{fold_more, AllPass-from_list_all}
use Rattle.std.specs.Char.{is_ascii_hexdigit, digit_value, IsScalar}
use Rattle.std.specs.List.{list_all}
use Rattle.std.specs.Str.Parse.{digits_value, digits_value_after, AllDigits}
use Rattle.fidl_spelling.specs.Words.{IsCharacter}

value_fold : (n : ℕ) (ds : List ℕ) → digits_value_after 16 n ds ≡ fold (λ n d. n * 16 + digit_value d) n ds
value_fold n [] = refl
value_fold n (d ∷ ds) = value_fold (n * 16 + digit_value d) ds

-- one digit more
pub value_more : (digits : List ℕ) (i : ℕ) → i < length digits → digits_value 16 (take (i + 1) digits) ≡ digits_value 16 (take i digits) * 16 + digit_value (get_or digits i 0)
value_more digits i within =
    value_fold 0 (take (i + 1) digits) ∙ fold_more (λ n d. n * 16 + digit_value d) 0 digits i 0 within
    ∙ ap (λ n. n * 16 + digit_value (get_or digits i 0)) (sym (value_fold 0 (take i digits)))

pub each_digit : (digits : List ℕ) (i : ℕ) → IsTrue (list_all is_ascii_hexdigit digits) → i < length digits → IsTrue (is_ascii_hexdigit (get_or digits i 0))
each_digit digits i h within = AllPass-from_list_all is_ascii_hexdigit digits h i 0 within

-- a digit takes four bits
pub room_more : (i v d : ℕ) → v < 2 ^ (4 * i) → d < 16 → v * 16 + d < 2 ^ (4 * (i + 1))
room_more i v d h g =
    let e : 4 * (i + 1) ≡ 4 * i + 4 = omega arith in
    let p : 2 ^ (4 * (i + 1)) ≡ 2 ^ (4 * i) * 16 = ap (λ n. 2 ^ n) e ∙ pow-add 2 (4 * i) 4 in
    omega arith

pub room_for_six : (i v : ℕ) → i < 6 → v < 2 ^ (4 * i) → v < 1048576
room_for_six i v h g =
    let s : 4 * i ≤ 20 = omega arith in
    let p : 2 ^ (4 * i) ≤ 2 ^ 20 = pow_mono s in
    omega arith

digit_small : (c : ℕ) → IsTrue (is_ascii_hexdigit c) → digit_value c < 16
digit_small c h = search (rules, h)

all_digits : (ds : List ℕ) → IsTrue (list_all is_ascii_hexdigit ds) → AllDigits 16 ds
all_digits [] h = tt
all_digits (d ∷ ds) h = let p = and_parts (is_ascii_hexdigit d) (list_all is_ascii_hexdigit ds) h in (digit_small d p.0, all_digits ds p.1)

-- one to six hex digits that write a scalar value
pub is_character : (ds : List ℕ) → IsTrue (list_all is_ascii_hexdigit ds) → 0 < length ds → length ds ≤ 6 → IsScalar (digits_value 16 ds) → IsCharacter ds
is_character ds h some few scalar = record { hex = h; some = (some, all_digits ds h); at_most_six = few; scalar = scalar }
