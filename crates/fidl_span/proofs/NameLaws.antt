-- A run of word bytes that begins with no digit is a good name or a bad one.
use Rattle.std.proofs.Common.{◌≡◌, ℕ, ◌<◌, ◌≤◌, ◌==◌, ◌&&◌, ◌||◌, not, Bool, List, [], ◌∷◌, ◌++◌, length, drop, get_or, slice_range, IsTrue, IsFalse, sym, subst, ◌∙◌, ⊎_elim}
use Rattle.std.proofs.lemmas.Bool.{both_ways, cases_Bool, and_cases, and_from, or_cases, or_parts, or_left, or_right, not-false}
use Rattle.std.proofs.lemmas.List.{drop_more}
use Rattle.std.specs.Char.{is_ascii_digit, is_ascii_alphabetic, is_ascii_alphanumeric}
use Rattle.std.specs.Int.{is_in_range}
use Rattle.fidl_span.specs.Bytes.{is_word_byte, begins, IsRun}
use Rattle.fidl_span.specs.Names.{last_byte, is_identifier, is_bad_identifier}
use Rattle.fidl_span.proofs.Slices.{cut}

-- a word byte that is no digit and no letter is `_`
underscore_is_left : (b : ℕ) → IsTrue (is_word_byte b) → IsFalse (is_ascii_digit b) → IsFalse (is_ascii_alphabetic b) → IsTrue (b == 95)
unfolding is_word_byte
underscore_is_left b h no_digit no_letter =
    let digit : Bool = is_in_range 48 57 b in
    let upper : Bool = is_in_range 65 90 b in
    let lower : Bool = is_in_range 97 122 b in
    let no_case = or_parts upper lower no_letter in
    ⊎_elim
    (λ alphanumeric. ⊎_elim
    (λ digit_or_upper. ⊎_elim (λ d. absurd (both_ways digit no_digit d)) (λ u. absurd (both_ways upper no_case.0 u)) (or_cases digit upper digit_or_upper))
    (λ l. absurd (both_ways lower no_case.1 l))
    (or_cases (digit || upper) lower alphanumeric))
    (λ underscore. underscore)
    (or_cases (is_ascii_alphanumeric b) (b == 95) h)

bad_name : (b : ℕ) (text : List ℕ) → IsTrue (is_word_byte b) → IsFalse (is_ascii_digit b) → IsFalse (is_identifier (b ∷ text)) → IsTrue (is_bad_identifier (b ∷ text))
unfolding is_identifier is_bad_identifier
bad_name b text h no_digit no_name =
    let letter : Bool = is_ascii_alphabetic b in
    let last : Bool = last_byte (b ∷ text) == 95 in
    ⊎_elim
    (λ is_letter. or_right (b == 95) (letter && last) (⊎_elim
    (λ no_letter. absurd (both_ways letter no_letter is_letter))
    (λ ends. and_from letter last is_letter (not-false last ends))
    (and_cases letter (not last) no_name)))
    (λ no_letter. or_left (b == 95) (letter && last) (underscore_is_left b h no_digit no_letter))
    (cases_Bool letter)

bad_run : (b : ℕ) (xs tail text rest : List ℕ) → xs ≡ b ∷ tail → xs ≡ text ++ rest → IsRun is_word_byte text rest → IsTrue (is_word_byte b) → IsFalse (is_ascii_digit b) → IsFalse (is_identifier text) → IsTrue (is_bad_identifier text)
bad_run b xs tail [] rest e f run h no_digit no_name =
    let P : List ℕ → Type 0 = λ l. IsFalse (begins is_word_byte l) in
    absurd (both_ways (is_word_byte b) (subst P (sym f ∙ e) run.stops) h)
bad_run b xs tail (c ∷ text) rest e f run h no_digit no_name =
    let heads : b ≡ c = cc in
    let P : ℕ → Type 0 = λ d. IsTrue (is_word_byte d) in
    let Q : ℕ → Type 0 = λ d. IsFalse (is_ascii_digit d) in
    bad_name c text (subst P heads h) (subst Q heads no_digit) no_name

-- the run at a place where a word byte stands that is no digit
pub bad_name_at : (src : List ℕ) (at to : ℕ) → at < length src → at ≤ to → IsRun is_word_byte (slice_range src at to) (drop to src) → IsTrue (is_word_byte (get_or src at 0)) → IsFalse (is_ascii_digit (get_or src at 0)) → IsFalse (is_identifier (slice_range src at to)) → IsTrue (is_bad_identifier (slice_range src at to))
bad_name_at src at to within ordered run h no_digit no_name =
    bad_run (get_or src at 0) (drop at src) _ (slice_range src at to) (drop to src) (drop_more src at 0 within) (cut src at to ordered) run h no_digit no_name
