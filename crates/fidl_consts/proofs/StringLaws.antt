-- Strings: what stands after a brace, and after an escape.
use Rattle.std.proofs.Common.{◌≡◌, ◌≢◌, ℕ, zero, suc, ◌+◌, ◌-◌, ◌<◌, ◌≤◌, ◌==◌, Bool, true, false, List, [], ◌∷◌, ◌++◌, length, take, drop, get_or, slice_range, min, refl, sym, ap, ◌∙◌, arith, drop-drop}
use Rattle.std.proofs.lemmas.Bool.{ne_eqb, eq-eqb}
use Rattle.std.proofs.lemmas.List.{drop_more, drop_min}
use Rattle.std.proofs.lemmas.List.Sums.{position_or_len_is}
use Rattle.std.proofs.Math.Seq.{take-nil}
use Rattle.std.specs.List.{position_or_len}
use Rattle.fidl_span.specs.Strings.{hex_value}
use Rattle.fidl_consts.specs.Literals.{unescaped, after_backslash, after_brace, character_bytes}

abbrev pub is_brace : ℕ → Bool
is_brace b = b == 125

-- a front without its first byte
pub inner : (text : List ℕ) (place : ℕ) → slice_range text (min place 1) place ≡ drop 1 (take place text)
inner text zero = refl
inner [] (suc place) =
    let one : min (suc place) 1 ≡ 1 = omega arith in
    rw one (take-nil (suc place - 1))
inner (b ∷ text) (suc place) =
    let one : min (suc place) 1 ≡ 1 = omega arith in
    let size : suc place - 1 ≡ place = omega arith in
    rw (one, size) refl

-- the first place where a brace stands, or the end
pub place_is : (text : List ℕ) (i : ℕ) → i ≤ length text → ((k : ℕ) → k < i → get_or text k 0 ≢ 125) → (i < length text → get_or text i 0 ≡ 125) → i ≡ position_or_len is_brace text
place_is text i within before here =
    sym (position_or_len_is is_brace text i 0 within (λ k h. ne_eqb (get_or text k 0) 125 (before k h)) (λ h. eq-eqb (get_or text i 0) 125 (here h)))

after_cons : (b : ℕ) (text : List ℕ) (t : Bool) → is_brace b ≡ t → after_brace text ≡ unescaped (drop (position_or_len is_brace text + 1) text) → after_brace (b ∷ text) ≡ unescaped (drop (position_or_len is_brace (b ∷ text) + 1) (b ∷ text))
after_cons b text true e h = rw e refl
after_cons b text false e h =
    let size : 1 + position_or_len is_brace text + 1 ≡ suc (position_or_len is_brace text + 1) = omega arith in
    rw (e, size) h

-- what stands after the first `}`
pub after_brace_is : (text : List ℕ) → after_brace text ≡ unescaped (drop (position_or_len is_brace text + 1) text)
after_brace_is [] = refl
after_brace_is (b ∷ text) = after_cons b text (is_brace b) refl (after_brace_is text)

-- a code point in braces, and what stands after it
pub code_point_after : (text : List ℕ) (at place to : ℕ) → at < length text → get_or text at 0 ≡ 117 → place ≡ position_or_len is_brace (drop (at + 1) text) → to ≡ min (at + place + 2) (length text) → character_bytes (hex_value (slice_range (drop (at + 1) text) (min place 1) place)) ++ unescaped (drop to text) ≡ after_backslash (drop at text)
code_point_after text at place to within letter e f =
    let rest = drop (at + 1) text in
    let here : drop at text ≡ 117 ∷ rest = drop_more text at 0 within ∙ ap (λ b. b ∷ rest) letter in
    let digits : slice_range rest (min place 1) place ≡ drop 1 (take (position_or_len is_brace rest) rest) = inner rest place ∙ ap (λ n. drop 1 (take n rest)) e in
    let size : at + 1 + (place + 1) ≡ at + place + 2 = omega arith in
    let after : drop to text ≡ drop (position_or_len is_brace rest + 1) rest =
    ap (λ n. drop n text) f ∙ drop_min (at + place + 2) text ∙ ap (λ n. drop n text) (sym size) ∙ sym (drop-drop (place + 1) (at + 1) text) ∙ ap (λ n. drop (n + 1) rest) e in
    ap (λ l. character_bytes (hex_value l) ++ unescaped (drop to text)) digits
    ∙ ap (λ l. character_bytes (hex_value (drop 1 (take (position_or_len is_brace rest) rest))) ++ unescaped l) after
    ∙ ap (λ l. character_bytes (hex_value (drop 1 (take (position_or_len is_brace rest) rest))) ++ l) (sym (after_brace_is rest))
    ∙ sym (ap after_backslash here)
