-- The escapes of a string literal: where one stands, and where none does.
use Rattle.std.proofs.Common.{Option, Some, None, IfSome, IfNone, ◌≡◌, ℕ, ◌+◌, ◌*◌, ◌^◌, ◌<◌, ◌≤◌, nat_eq, List, [], ◌∷◌, ◌++◌, length, drop, take, get_or, slice_range, IsTrue, IsFalse, sym, refl, subst, ap, ◌∙◌, append_assoc, pow_mono, pow-add, arith}
use Rattle.std.proofs.lemmas.Bool.{both_ways}
use Rattle.std.proofs.lemmas.List.{drop_more}
use Rattle.std.proofs.lemmas.List.Sums.{fold_more, AllPass-from_list_all}
use Rattle.std.specs.Char.{is_ascii_hexdigit, digit_value}
use Rattle.std.specs.List.{list_all, starts_with}
use Rattle.fidl_span.specs.Bytes.{begins, IsRun}
use Rattle.fidl_span.specs.Strings.{is_escape_letter, hex_value, IsCodePoint, IsPiece, plain, letter, code_point, BeginsNoPiece}
use Rattle.fidl_span.proofs.Slices.{cut, join, one_byte, part_found, rest_found, slice_range-push, front_stands, front_read}
use Rattle.fidl_span.proofs.RunLaws.{runs_agree}

-- one digit more
pub hex_value_more : (digits : List ℕ) (i : ℕ) → i < length digits → hex_value (take (i + 1) digits) ≡ hex_value (take i digits) * 16 + digit_value (get_or digits i 0)
hex_value_more digits i within = fold_more (λ n d. n * 16 + digit_value d) 0 digits i 0 within

pub each_digit : (digits : List ℕ) (i : ℕ) → IsTrue (list_all is_ascii_hexdigit digits) → i < length digits → IsTrue (is_ascii_hexdigit (get_or digits i 0))
each_digit digits i h within = AllPass-from_list_all is_ascii_hexdigit digits h i 0 within

-- a digit takes four bits
pub room_more : (i v d : ℕ) → v < 2 ^ (4 * i) → d < 16 → v * 16 + d < 2 ^ (4 * (i + 1))
room_more i v d h g =
    let e : 4 * (i + 1) ≡ 4 * i + 4 = omega arith in
    let p : 2 ^ (4 * (i + 1)) ≡ 2 ^ (4 * i) * 16 = ap (λ n. 2 ^ n) e ∙ pow-add 2 (4 * i) 4 in
    omega arith

pub room_for_six : (i v : ℕ) → i < 6 → v < 2 ^ (4 * i) → v < 1048576
room_for_six i v h g =
    let s : 4 * i ≤ 20 = omega arith in
    let p : 2 ^ (4 * i) ≤ 2 ^ 20 = pow_mono s in
    omega arith

-- a backslash and a letter
pub letter_escape : (src : List ℕ) (at : ℕ) → at + 1 < length src → get_or src at 0 ≡ 92 → IsTrue (is_escape_letter (get_or src (at + 1) 0)) → IsPiece (slice_range src at (at + 2))
letter_escape src at within backslash h =
    let two : at + 2 ≡ at + 1 + 1 = omega arith in
    let start : at < length src = omega arith in
    let text : slice_range src at (at + 2) ≡ 92 ∷ get_or src (at + 1) 0 ∷ [] =
    ap (λ n. slice_range src at n) two ∙ slice_range-push src at (at + 1) (omega arith) within
    ∙ ap (λ l. l ++ get_or src (at + 1) 0 ∷ []) (one_byte src at start ∙ ap (λ b. b ∷ []) backslash) in
    subst IsPiece (sym text) (letter h)

-- the three bytes before a code point
abbrev pub unicode_mark : List ℕ
unicode_mark = 92 ∷ 117 ∷ 123 ∷ []

pub code_point_escape : (src : List ℕ) (at to : ℕ) → IsTrue (starts_with nat_eq (drop at src) unicode_mark) → at + 3 < to → (text : List ℕ) × IsCodePoint text × (slice_range src (at + 3) to ≡ text ++ 125 ∷ []) → IsPiece (slice_range src at to)
code_point_escape src at to mark ordered (text, h, e) =
    let found = front_stands unicode_mark (drop at src) mark in
    let front : slice_range src at (at + 3) ≡ unicode_mark = part_found src unicode_mark found.0 at (at + 3) found.1 refl in
    let whole : slice_range src at to ≡ 92 ∷ 117 ∷ 123 ∷ (text ++ 125 ∷ []) =
    sym (join src at (at + 3) to (omega arith) (omega arith)) ∙ ap (λ l. l ++ slice_range src (at + 3) to) front ∙ ap (λ l. unicode_mark ++ l) e in
    subst IsPiece (sym whole) (code_point h)

-- where neither a letter nor a code point stands behind a backslash, no piece does at it
no_escape : (xs tail : List ℕ) → xs ≡ 92 ∷ tail → IsFalse (begins is_escape_letter tail) → ((text rest : List ℕ) → IsCodePoint text → xs ≡ 92 ∷ 117 ∷ 123 ∷ (text ++ 125 ∷ rest) → ⊥) → BeginsNoPiece xs
no_escape xs tail e no_letter no_code piece rest (plain {b = b} h) f =
    let f' : xs ≡ b ∷ rest = f in
    h.no_backslash (cc)
no_escape xs tail e no_letter no_code piece rest (letter {c = c} h) f =
    let f' : xs ≡ 92 ∷ c ∷ rest = f in
    let t : tail ≡ c ∷ rest = cc in
    let P : List ℕ → Type 0 = λ l. IsFalse (begins is_escape_letter l) in
    both_ways (is_escape_letter c) (subst P t no_letter) h
no_escape xs tail e no_letter no_code piece rest (code_point {text = text} h) f =
    no_code text rest h (f ∙ ap (λ l. 92 ∷ 117 ∷ 123 ∷ l) (append_assoc text (125 ∷ []) rest))

backslash_first : (src : List ℕ) (at : ℕ) → at < length src → get_or src at 0 ≡ 92 → drop at src ≡ 92 ∷ drop (at + 1) src
backslash_first src at within e = drop_more src at 0 within ∙ ap (λ b. b ∷ drop (at + 1) src) e

-- behind the backslash no letter, and no `u{`
pub no_escape_at : (src : List ℕ) (at : ℕ) → at < length src → get_or src at 0 ≡ 92 → IsFalse (begins is_escape_letter (drop (at + 1) src)) → IsFalse (starts_with nat_eq (drop at src) unicode_mark) → BeginsNoPiece (drop at src)
no_escape_at src at within e no_letter no_mark =
    no_escape (drop at src) (drop (at + 1) src) (backslash_first src at within e) no_letter
    (λ text rest h f. both_ways (starts_with nat_eq (drop at src) unicode_mark) no_mark (ap (λ l. starts_with nat_eq l unicode_mark) f ∙ front_read unicode_mark (text ++ 125 ∷ rest)))

-- behind the backslash no letter, and behind `u{` no code point
pub no_code_point_at : (src : List ℕ) (at : ℕ) → at < length src → get_or src at 0 ≡ 92 → IsFalse (begins is_escape_letter (drop (at + 1) src)) → ((text rest : List ℕ) → IsCodePoint text → drop (at + 3) src ≡ text ++ 125 ∷ rest → ⊥) → BeginsNoPiece (drop at src)
no_code_point_at src at within e no_letter no_code =
    no_escape (drop at src) (drop (at + 1) src) (backslash_first src at within e) no_letter
    (λ text rest h f. no_code text rest h (rest_found src unicode_mark (text ++ 125 ∷ rest) at (at + 3) f refl))

-- a code point and its brace are the longest run of digits there and what follows it
pub code_point_agrees : (src text rest : List ℕ) (from to : ℕ) → from ≤ to → IsRun is_ascii_hexdigit (slice_range src from to) (drop to src) → IsCodePoint text → drop from src ≡ text ++ 125 ∷ rest → (slice_range src from to ≡ text) × (drop to src ≡ 125 ∷ rest)
code_point_agrees src text rest from to ordered run h e =
    runs_agree is_ascii_hexdigit (slice_range src from to) text (drop to src) (125 ∷ rest) run.passes run.stops h.digits refl (sym (cut src from to ordered) ∙ e)

-- a weaker fact of what an option has, and of its having nothing
pub if_some_weaker : (o : Option ℕ) (P Q : ℕ → Type 0) → ((x : ℕ) → P x → Q x) → IfSome o P → IfSome o Q
if_some_weaker None P Q f h = tt
if_some_weaker (Some x) P Q f h = f x h

pub if_none_weaker : (o : Option ℕ) (P Q : Type 0) → (P → Q) → IfNone o P → IfNone o Q
if_none_weaker None P Q f h = f h
if_none_weaker (Some x) P Q f h = tt
