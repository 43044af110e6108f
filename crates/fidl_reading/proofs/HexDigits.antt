-- Bytes by two hex digits each.
use Rattle.std.proofs.Common.{◌≡◌, ℕ, ◌+◌, ◌*◌, ◌<◌, true, List, [], ◌∷◌, ◌++◌, length, get_or, IsTrue, refl, sym, ap, subst, ◌∙◌, arith, slice_range, append_assoc}
use Rattle.std.proofs.lemmas.Bool.{and_from}
use Rattle.std.proofs.lemmas.List.Sums.{AllPass-from_list_all}
use Rattle.std.specs.Char.{is_ascii_hexdigit, digit_value}
use Rattle.std.specs.List.{list_all}
use Rattle.fidl_spelling.specs.Spells.{IsHex}
use Rattle.fidl_reading.proofs.Slices.{slice_range-push}

pub hex_at : (w : List ℕ) (i : ℕ) → list_all is_ascii_hexdigit w ≡ true → i < length w → IsTrue (is_ascii_hexdigit (get_or w i 0))
hex_at w i h within = AllPass-from_list_all is_ascii_hexdigit w h i 0 within

-- one byte more
hex_push : (bytes w : List ℕ) (x a b : ℕ) → IsHex bytes w → IsTrue (is_ascii_hexdigit a) → IsTrue (is_ascii_hexdigit b) → x ≡ digit_value a * 16 + digit_value b → IsHex (bytes ++ x ∷ []) (w ++ a ∷ b ∷ [])
hex_push [] [] x a b h ha hb e = (ha, hb, e, tt)
hex_push [] (c ∷ w) x a b h ha hb e = absurd h
hex_push (y ∷ bytes) [] x a b h ha hb e = absurd h
hex_push (y ∷ bytes) (c ∷ []) x a b h ha hb e = absurd h
hex_push (y ∷ bytes) (c ∷ d ∷ w) x a b h ha hb e = (h.0, h.1, h.2, hex_push bytes w x a b h.3 ha hb e)

pub hex_more : (src bytes : List ℕ) (at x : ℕ) → at + 1 < length src → IsHex bytes (slice_range src 0 at) → IsTrue (is_ascii_hexdigit (get_or src at 0)) → IsTrue (is_ascii_hexdigit (get_or src (at + 1) 0)) → x ≡ digit_value (get_or src at 0) * 16 + digit_value (get_or src (at + 1) 0) → IsHex (bytes ++ x ∷ []) (slice_range src 0 (at + 2))
hex_more src bytes at x within h ha hb e =
    let a = get_or src at 0 in
    let b = get_or src (at + 1) 0 in
    let two : at + 2 ≡ at + 1 + 1 = omega arith in
    let text : slice_range src 0 (at + 2) ≡ slice_range src 0 at ++ a ∷ b ∷ [] =
    ap (λ n. slice_range src 0 n) two ∙ slice_range-push src 0 (at + 1) (omega arith) within
    ∙ ap (λ l. l ++ b ∷ []) (slice_range-push src 0 at (omega arith) (omega (arith, within)))
    ∙ append_assoc (slice_range src 0 at) (a ∷ []) (b ∷ []) in
    subst (λ l. IsHex (bytes ++ x ∷ []) l) (sym text) (hex_push bytes (slice_range src 0 at) x a b h ha hb e)

-- what is so written consists of hex digits, two for each byte
pub hex_digits : (bytes w : List ℕ) → IsHex bytes w → (list_all is_ascii_hexdigit w ≡ true) × (length w ≡ length bytes * 2)
hex_digits [] [] h = (refl, refl)
hex_digits [] (c ∷ w) h = absurd h
hex_digits (y ∷ bytes) [] h = absurd h
hex_digits (y ∷ bytes) (c ∷ []) h = absurd h
hex_digits (y ∷ bytes) (c ∷ d ∷ w) h =
    let r = hex_digits bytes w h.3 in
    let n = r.1 in
    (and_from (is_ascii_hexdigit c) (list_all is_ascii_hexdigit (d ∷ w)) h.0 (and_from (is_ascii_hexdigit d) (list_all is_ascii_hexdigit w) h.1 r.0), omega (arith, n))
