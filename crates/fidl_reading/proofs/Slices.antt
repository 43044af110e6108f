-- Parts of a text, and what follows them.
use Rattle.std.proofs.Common.{◌≡◌, ℕ, ◌+◌, ◌-◌, ◌<◌, ◌≤◌, ◌==◌, nat_eq, true≢false, eqb-true, eq-eqb, IsTrue, List, [], ◌∷◌, ◌++◌, length, get_or, take, drop, slice_range, sym, refl, ap, ◌∙◌, append_assoc, arith, length-drop, length-take-le, take-append-drop, drop-drop, take_at, drop_at}
use Rattle.std.proofs.lemmas.Bool.{and_parts, and_from}
use Rattle.std.proofs.lemmas.List.{append_cancel_right, drop_more}
use Rattle.std.specs.List.{starts_with}
use Rattle.std.proofs.lemmas.List.Edits.{between_more}

-- what stands from a place on is what stands up to a later place, and what stands from that one on
pub cut : (src : List ℕ) (a b : ℕ) → a ≤ b → drop a src ≡ slice_range src a b ++ drop b src
cut src a b ordered =
    let ends : a + (b - a) ≡ b = omega arith in
    sym (take-append-drop (b - a) (drop a src)) ∙ ap (λ r. take (b - a) (drop a src) ++ r) (drop-drop (b - a) a src ∙ ap (λ n. drop n src) ends)

pub length-slice_range : (src : List ℕ) (a b : ℕ) → a ≤ b → b ≤ length src → length (slice_range src a b) ≡ b - a
length-slice_range src a b ordered within = length-take-le (b - a) (drop a src) (omega (arith, length-drop a src))

-- two neighbouring parts
pub join : (src : List ℕ) (a b c : ℕ) → a ≤ b → b ≤ c → slice_range src a b ++ slice_range src b c ≡ slice_range src a c
join src a b c ab bc =
    append_cancel_right _ _ (drop c src)
    (append_assoc (slice_range src a b) (slice_range src b c) (drop c src)
    ∙ ap (λ r. slice_range src a b ++ r) (sym (cut src b c bc))
    ∙ sym (cut src a b ab)
    ∙ cut src a c (omega arith))

pub one_byte : (src : List ℕ) (a : ℕ) → a < length src → slice_range src a (a + 1) ≡ get_or src a 0 ∷ []
one_byte src a within =
    let one : a + 1 - a ≡ 1 = omega arith in
    ap (λ n. take n (drop a src)) one ∙ ap (λ l. take 1 l) (drop_more src a 0 within)

-- a part with one more byte at its end
pub slice_range-push : (src : List ℕ) (a b : ℕ) → a ≤ b → b < length src → slice_range src a (b + 1) ≡ slice_range src a b ++ get_or src b 0 ∷ []
slice_range-push src a b ordered within = between_more src a b 0 ordered within

-- nothing stands from a place to itself
pub slice_range-nil : (src : List ℕ) (a : ℕ) → slice_range src a a ≡ []
slice_range-nil src a = let none : a - a ≡ 0 = omega arith in ap (λ n. take n (drop a src)) none

-- a part that is found at the front of what stands from a place on
pub part_found : (src text rest : List ℕ) (a b : ℕ) → drop a src ≡ text ++ rest → b ≡ a + length text → slice_range src a b ≡ text
part_found src text rest a b e h =
    let size : b - a ≡ length text = omega arith in
    ap (λ n. take n (drop a src)) size ∙ ap (take (length text)) e ∙ take_at text rest (length text) refl

pub rest_found : (src text rest : List ℕ) (a b : ℕ) → drop a src ≡ text ++ rest → b ≡ a + length text → drop b src ≡ rest
rest_found src text rest a b e h = ap (λ n. drop n src) h ∙ sym (drop-drop (length text) a src) ∙ ap (drop (length text)) e ∙ drop_at text rest (length text) refl

-- what `starts_with` tells
pub front_stands : (needle xs : List ℕ) → IsTrue (starts_with nat_eq xs needle) → (rest : List ℕ) × (xs ≡ needle ++ rest)
front_stands [] xs h = (xs, refl)
front_stands (n ∷ needle) [] h = absurd (true≢false (sym h))
front_stands (n ∷ needle) (x ∷ xs) h =
    let parts = and_parts (n == x) (starts_with nat_eq xs needle) h in
    let heads = eqb-true n x parts.0 in
    let others = front_stands needle xs parts.1 in
    let tails : xs ≡ needle ++ others.0 = others.1 in
    (others.0, cc)

pub front_read : (needle rest : List ℕ) → IsTrue (starts_with nat_eq (needle ++ rest) needle)
front_read [] rest = refl
front_read (n ∷ needle) rest = and_from (n == n) (starts_with nat_eq (needle ++ rest) needle) (eq-eqb n n refl) (front_read needle rest)
