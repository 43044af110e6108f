-- A line and a column, one byte on.
use Rattle.std.proofs.Common.{◌≡◌, ℕ, ◌+◌, ◌-◌, ◌<◌, ◌≤◌, ◌==◌, min, cond, take_all, eq-eqb, ne_eqb, length-take, not, Bool, true, false, List, [], ◌∷◌, ◌++◌, length, get_or, take, reverse, sym, refl, ap, ◌∙◌, arith, length-drop}
use Rattle.std.specs.List.{prefix_len, suffix_len, after_last}
use Rattle.std.proofs.lemmas.List.{take_more, take_min, reverse-append, length-reverse}
use Rattle.std.proofs.lemmas.List.Sums.{prefix_len-le-length, count_by-le-length, count_by_more_yes, count_by_more_no}
use Rattle.fidl_span.specs.Lines.{line_of, column_of}

suffix_len-push : (test : ℕ → Bool) (xs : List ℕ) (b : ℕ) → suffix_len test (xs ++ b ∷ []) ≡ cond (test b) (1 + suffix_len test xs) 0
suffix_len-push test xs b = ap (prefix_len test) (reverse-append xs (b ∷ []))

abbrev no_line_feed : ℕ → Bool
no_line_feed b = not (b == 10)

length-after_last : (xs : List ℕ) → length (after_last (λ b. b == 10) xs) ≡ suffix_len no_line_feed xs
length-after_last xs =
    let short : suffix_len no_line_feed xs ≤ length xs = omega (arith, prefix_len-le-length no_line_feed (reverse xs), length-reverse xs) in
    length-drop (length xs - suffix_len no_line_feed xs) xs ∙ omega arith

-- the parts of a choice, with one more
cond_more : (b : Bool) (n : ℕ) → cond b (1 + n) 0 + 1 ≡ cond b (n + 1 + 1) 1
cond_more true n = omega arith
cond_more false n = refl

pub column_more : (src : List ℕ) (i : ℕ) → i < length src → column_of src (i + 1) ≡ cond (not (get_or src i 0 == 10)) (column_of src i + 1) 1
column_more src i within =
    let new = length-after_last (take (i + 1) src) ∙ ap (suffix_len no_line_feed) (take_more src i 0 within) ∙ suffix_len-push no_line_feed (take i src) (get_or src i 0) in
    let old = length-after_last (take i src) in
    ap (λ n. n + 1) new ∙ cond_more (no_line_feed (get_or src i 0)) (suffix_len no_line_feed (take i src)) ∙ ap (λ n. cond (no_line_feed (get_or src i 0)) (n + 1 + 1) 1) (sym old)

-- behind a line feed, and behind any other byte
pub lines_behind_line_feed : (src : List ℕ) (i : ℕ) → i < length src → get_or src i 0 ≡ 10 → (line_of src (i + 1) ≡ line_of src i + 1) × (column_of src (i + 1) ≡ 1)
lines_behind_line_feed src i within e =
    let test = eq-eqb (get_or src i 0) 10 e in
    (ap (λ n. n + 1) (count_by_more_yes (λ b. b == 10) src i 0 within test), column_more src i within ∙ ap (λ t. cond (not t) (column_of src i + 1) 1) test)

pub lines_behind_other : (src : List ℕ) (i : ℕ) → i < length src → (get_or src i 0 ≡ 10 → ⊥) → (line_of src (i + 1) ≡ line_of src i) × (column_of src (i + 1) ≡ column_of src i + 1)
lines_behind_other src i within e =
    let test = ne_eqb (get_or src i 0) 10 e in
    (ap (λ n. n + 1) (count_by_more_no (λ b. b == 10) src i 0 within test), column_more src i within ∙ ap (λ t. cond (not t) (column_of src i + 1) 1) test)

-- at most one more than the bytes before
pub line_of-le : (src : List ℕ) (i : ℕ) → line_of src i ≤ i + 1
line_of-le src i = omega (arith, count_by-le-length (λ b. b == 10) (take i src), length-take i src)

pub column_of-le : (src : List ℕ) (i : ℕ) → column_of src i ≤ i + 1
column_of-le src i = omega (arith, length-after_last (take i src), prefix_len-le-length no_line_feed (reverse (take i src)), length-reverse (take i src), length-take i src)

-- the front of a source up to a place, or to its end
pub front_is : (src : List ℕ) (place m i : ℕ) → m ≡ min place (length src) → length (take m src) ≤ i → take i (take m src) ≡ take place src
front_is src place m i e all = take_all i (take m src) all ∙ ap (λ n. take n src) e ∙ take_min place src
